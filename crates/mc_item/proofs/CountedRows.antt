-- Worked rows of the counts, each computed: which numbers of `stats` grow by one, by what a shard is asked and what it
-- answers. Each was measured on memcached 1.6.18.
use Rattle.std.proofs.Common.{◌≡◌, ℕ, ℤ, Bool, true, false, List, [], ◌∷◌, filter, Option, Some, None, refl}
use Rattle.std.specs.Prelude.{nat_lt, pos}
use Rattle.mc_command.specs.declared.command.Direction.{Direction}
use Rattle.mc_command.specs.declared.command.Direction.TheVariants.{Increment, Decrement}
use Rattle.mc_command.specs.declared.command.StoreMode.{StoreMode}
use Rattle.mc_command.specs.declared.command.StoreMode.TheVariants as mode
use Rattle.mc_item.specs.declared.answer.Answer.{Answer}
use Rattle.mc_item.specs.declared.answer.Answer.TheVariants.{Stored, NotStored, Exists, NotFound, TooLarge, Hit, Miss}
use Rattle.mc_item.specs.declared.answer.Answer.TheVariants.{Number, NonNumeric, Deleted, Touched, Done, MetaHit}
use Rattle.mc_item.specs.declared.answer.Answer.TheVariants.{MetaDone, Reset}
use Rattle.mc_item.specs.declared.op.Op.{Op}
use Rattle.mc_item.specs.declared.op.Op.TheVariants as op
use Rattle.mc_item.specs.declared.stat.Stat.{Stat}
use Rattle.mc_item.specs.declared.stat.Stat.TheVariants.{CmdGet, CmdSet, CmdFlush, CmdTouch, GetHits, GetMisses}
use Rattle.mc_item.specs.declared.stat.Stat.TheVariants.{DeleteMisses, DeleteHits, IncrMisses, IncrHits, DecrMisses}
use Rattle.mc_item.specs.declared.stat.Stat.TheVariants.{DecrHits, CasMisses, CasHits, CasBadval, TouchHits}
use Rattle.mc_item.specs.declared.stat.Stat.TheVariants.{TouchMisses, StoreTooLarge, TotalItems, ExpiredUnfetched}
use Rattle.mc_item.specs.declared.stat.Stat.TheVariants.{Reclaimed}
use Rattle.mc_item.specs.Stat.{all_stats, row_of}
use Rattle.mc_item.specs.OpStats.{counted_in, counting_of, no_counts, reclaimed_in, status_of}

-- the numbers that are 1 once a shard was asked this alone: the first shard or another, where it makes an item of a
-- miss or doesn't
abbrev grows : Bool → Bool → Op → Answer → List Stat
grows first makes asked said =
    filter (λ stat. nat_lt 0
    ((row_of stat).1 (record {
      op_stats = counted_in no_counts (counting_of first makes asked) (status_of said);
      evicted = 0;
      items = 0;
      bytes = 0;
      budget = 0;
    }))) all_stats

-- what any shard counts that makes no item of a miss
abbrev plain : Op → Answer → List Stat
plain asked said = grows false false asked said

abbrev store : StoreMode → Option ℕ → Op
store mode compare =
    op.Store (record {
      key = [];
      mode = mode;
      compare = compare;
      unique = None;
      flags = 0;
      exptime = pos 0;
      value = [];
    })

abbrev ms : StoreMode → Option ℕ → Op
ms mode compare =
    op.MetaStore (record {
      key = [];
      mode = mode;
      compare = compare;
      unique = None;
      flags = 0;
      exptime = pos 0;
      value = [];
    })

abbrev mg : Option ℤ → Op
mg touch = op.MetaGet (record { key = []; touch = touch; vivify = Some (pos 0); recache = None; unnoted = false })

abbrev md : Bool → Op
md invalidate =
    op.MetaDelete (record { key = []; compare = Some 9; unique = None; invalidate = invalidate; exptime = None })

abbrev ma : Direction → Op
ma direction =
    op.MetaCount (record {
      key = [];
      compare = Some 9;
      unique = None;
      direction = direction;
      amount = 1;
      exptime = None;
      vivify = Some (record { exptime = pos 0; initial = 0 });
    })

abbrev hit : Answer
hit =
    MetaHit (record {
      value = [];
      flags = 0;
      unique = 0;
      fetched = false;
      idle = 0;
      left = None;
      marks = record { won = false; stale = false; sent = false };
    })

abbrev done : Answer
done = MetaDone (record { unique = 0; size = 0; left = None; number = 0 })

record Reading : Type 0 where
  get_hits : plain (op.Fetch [] None) (Hit 0 0 []) ≡ CmdGet ∷ GetHits ∷ []
  get_misses : plain (op.Fetch [] None) Miss ≡ CmdGet ∷ GetMisses ∷ []
  gat_hits : plain (op.Fetch [] (Some (pos 0))) (Hit 0 0 []) ≡ CmdTouch ∷ TouchHits ∷ []
  gat_misses : plain (op.Fetch [] (Some (pos 0))) Miss ≡ CmdTouch ∷ TouchMisses ∷ []
  touch_hits : plain (op.Touch [] (pos 0)) Touched ≡ CmdTouch ∷ TouchHits ∷ []
  touch_misses : plain (op.Touch [] (pos 0)) NotFound ≡ CmdTouch ∷ TouchMisses ∷ []
  mg_hits : plain (mg None) hit ≡ CmdGet ∷ GetHits ∷ []
  mg_misses : plain (mg None) Miss ≡ CmdGet ∷ GetMisses ∷ []
  mg_touches : plain (mg (Some (pos 0))) hit ≡ CmdTouch ∷ TouchHits ∷ []
  mg_touches_none : plain (mg (Some (pos 0))) Miss ≡ CmdGet ∷ GetMisses ∷ []
  mg_makes : grows false true (mg None) hit ≡ CmdGet ∷ GetHits ∷ TotalItems ∷ []
  mg_makes_and_touches : grows false true (mg (Some (pos 0))) hit ≡ CmdTouch ∷ TouchHits ∷ TotalItems ∷ []

reading : Reading
unfolding counting_of status_of
reading =
    record {
      get_hits = refl;
      get_misses = refl;
      gat_hits = refl;
      gat_misses = refl;
      touch_hits = refl;
      touch_misses = refl;
      mg_hits = refl;
      mg_misses = refl;
      mg_touches = refl;
      mg_touches_none = refl;
      mg_makes = refl;
      mg_makes_and_touches = refl;
    }

record Storing : Type 0 where
  stored : plain (store mode.Append None) Stored ≡ CmdSet ∷ TotalItems ∷ []
  refused : plain (store mode.Add None) NotStored ≡ CmdSet ∷ []
  grown_too_large : plain (store mode.Append None) TooLarge ≡ CmdSet ∷ []
  cas_hits : plain (store mode.Set (Some 9)) Stored ≡ CmdSet ∷ CasHits ∷ TotalItems ∷ []
  cas_misses : plain (store mode.Set (Some 9)) NotFound ≡ CmdSet ∷ CasMisses ∷ []
  cas_differs : plain (store mode.Set (Some 9)) Exists ≡ CmdSet ∷ CasBadval ∷ []
  ms_stored : plain (ms mode.Set None) done ≡ CmdSet ∷ TotalItems ∷ []
  ms_compares : plain (ms mode.Replace (Some 9)) done ≡ CmdSet ∷ CasHits ∷ TotalItems ∷ []
  ms_finds_none : plain (ms mode.Set (Some 9)) NotFound ≡ CmdSet ∷ CasMisses ∷ []
  ms_finds_another : plain (ms mode.Replace (Some 9)) Exists ≡ CmdSet ∷ CasBadval ∷ []
  ms_joins : plain (ms mode.Append (Some 9)) done ≡ CmdSet ∷ TotalItems ∷ []
  ms_joins_none : plain (ms mode.Prepend (Some 9)) NotFound ≡ CmdSet ∷ []
  ms_joins_another : plain (ms mode.Prepend (Some 9)) Exists ≡ CmdSet ∷ []
  discarded : plain (op.Discard []) Deleted ≡ StoreTooLarge ∷ []
  nothing_to_discard : plain (op.Discard []) NotFound ≡ StoreTooLarge ∷ []

storing : Storing
unfolding counting_of status_of
storing =
    record {
      stored = refl;
      refused = refl;
      grown_too_large = refl;
      cas_hits = refl;
      cas_misses = refl;
      cas_differs = refl;
      ms_stored = refl;
      ms_compares = refl;
      ms_finds_none = refl;
      ms_finds_another = refl;
      ms_joins = refl;
      ms_joins_none = refl;
      ms_joins_another = refl;
      discarded = refl;
      nothing_to_discard = refl;
    }

record Counting : Type 0 where
  incr_hits : plain (op.Count [] Increment 1) (Number 5) ≡ IncrHits ∷ []
  incr_misses : plain (op.Count [] Increment 1) NotFound ≡ IncrMisses ∷ []
  incr_of_text : plain (op.Count [] Increment 1) NonNumeric ≡ []
  decr_hits : plain (op.Count [] Decrement 1) (Number 5) ≡ DecrHits ∷ []
  decr_misses : plain (op.Count [] Decrement 1) NotFound ≡ DecrMisses ∷ []
  ma_hits : plain (ma Increment) done ≡ IncrHits ∷ []
  ma_misses : plain (ma Decrement) NotFound ≡ DecrMisses ∷ []
  ma_differs : plain (ma Increment) Exists ≡ []
  ma_makes : grows false true (ma Increment) done ≡ TotalItems ∷ []
  ma_makes_to_fall : grows false true (ma Decrement) done ≡ TotalItems ∷ []

counting : Counting
unfolding counting_of status_of
counting =
    record {
      incr_hits = refl;
      incr_misses = refl;
      incr_of_text = refl;
      decr_hits = refl;
      decr_misses = refl;
      ma_hits = refl;
      ma_misses = refl;
      ma_differs = refl;
      ma_makes = refl;
      ma_makes_to_fall = refl;
    }

record Dropping : Type 0 where
  deleted : plain (op.Delete []) Deleted ≡ DeleteHits ∷ []
  not_deleted : plain (op.Delete []) NotFound ≡ DeleteMisses ∷ []
  md_deletes : plain (md false) Deleted ≡ DeleteHits ∷ []
  md_misses : plain (md true) NotFound ≡ DeleteMisses ∷ []
  md_differs : plain (md true) Exists ≡ DeleteMisses ∷ []
  md_marks : plain (md true) Done ≡ []
  flushed : grows true false (op.Flush (pos 0)) Done ≡ CmdFlush ∷ []
  flushed_elsewhere : grows false false (op.Flush (pos 0)) Done ≡ []
  reset : grows true false op.ResetStats Reset ≡ []

dropping : Dropping
unfolding counting_of status_of
dropping =
    record {
      deleted = refl;
      not_deleted = refl;
      md_deletes = refl;
      md_misses = refl;
      md_differs = refl;
      md_marks = refl;
      flushed = refl;
      flushed_elsewhere = refl;
      reset = refl;
    }

-- the numbers that are 1 once a dead item gave its room back
abbrev reclaims : Bool → List Stat
reclaims fetched =
    filter (λ stat. nat_lt 0
    ((row_of stat).1 (record {
      op_stats = reclaimed_in no_counts fetched;
      evicted = 0;
      items = 0;
      bytes = 0;
      budget = 0;
    }))) all_stats

record Reclaiming : Type 0 where
  unfetched : reclaims false ≡ ExpiredUnfetched ∷ Reclaimed ∷ []
  fetched : reclaims true ≡ Reclaimed ∷ []

reclaiming : Reclaiming
reclaiming = record { unfetched = refl; fetched = refl }
