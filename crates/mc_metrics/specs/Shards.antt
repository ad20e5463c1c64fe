-- The text of the metrics of each shard, in Prometheus' format.
use Rattle.std.specs.Prelude.{ℕ, List, [], ◌∷◌, ◌++◌, ◌+◌, codes, flat_map}
use Rattle.std.specs.Fmt.{decimal}
use Rattle.mc_telemetry.specs.declared.shard_counts.ShardTotals.{ShardTotals}
use Rattle.mc_metrics.specs.declared.by_shard.ShardMetric.{ShardMetric}
use Rattle.mc_metrics.specs.declared.by_shard.ShardMetric.TheVariants.{Items, Bytes, Evicted, OutOfMemory}

-- the HELP and TYPE lines of a metric
abbrev pub head_text : (kind name help : List ℕ) → List ℕ
head_text kind name help =
    codes "# HELP " ++ (name
    ++ (codes " " ++ (help ++ ((10 ∷ codes "# TYPE ") ++ (name ++ ((32 ∷ kind) ++ (10 ∷ [])))))))

abbrev pub name_of : ShardMetric → List ℕ
name_of Items = codes "mcd_shard_items"
name_of Bytes = codes "mcd_shard_bytes"
name_of Evicted = codes "mcd_shard_evicted_total"
name_of OutOfMemory = codes "mcd_shard_out_of_memory_total"

-- the text before the samples of a metric
abbrev pub head_of : ShardMetric → List ℕ
head_of Items = head_text (codes "gauge") (name_of Items) (codes "Number of items in the shard.")
head_of Bytes = head_text (codes "gauge") (name_of Bytes) (codes "Cost of the items in the shard, in bytes.")
head_of Evicted = head_text (codes "counter") (name_of Evicted) (codes "Items of the shard evicted to make room.")
head_of OutOfMemory =
    head_text (codes "counter") (name_of OutOfMemory)
    (codes "Commands that failed because the shard had no memory left.")

abbrev pub value_of : ShardMetric → ShardTotals → ℕ
value_of Items shard = shard.items
value_of Bytes shard = shard.bytes
value_of Evicted shard = shard.evicted
value_of OutOfMemory shard = shard.out_of_memory

-- the sample of the shard of this number; 34 is the quotation mark
unfoldable pub shard_line : ShardMetric → (number value : ℕ) → List ℕ
shard_line metric number value =
    name_of metric ++ ((codes "{shard=" ++ (34 ∷ []))
    ++ (decimal number ++ ((34 ∷ codes "} ") ++ (decimal value ++ (10 ∷ [])))))

-- a sample for each of the shards, the first of which has this number
abbrev pub shard_lines : ShardMetric → ℕ → List ShardTotals → List ℕ
shard_lines metric number [] = []
shard_lines metric number (shard ∷ shards) =
    shard_line metric number (value_of metric shard) ++ shard_lines metric (number + 1) shards

-- the text of a metric of these shards
abbrev pub text_of : List ShardTotals → ShardMetric → List ℕ
text_of shards metric = head_of metric ++ shard_lines metric 0 shards

-- the contents and evictions of each shard
abbrev pub shards_text : List ShardTotals → List ℕ
shards_text shards = flat_map (text_of shards) (Items ∷ (Bytes ∷ (Evicted ∷ (OutOfMemory ∷ []))))
