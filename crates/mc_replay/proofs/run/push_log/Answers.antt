-- The line of the next entry follows those of the entries so far.
use Rattle.std.proofs.Common.{◌≡◌, ◌<◌, ◌+◌, ℕ, List, ◌++◌, length, get_or, take, ap, sym, ◌∙◌}
use Rattle.std.specs.List.{flat_map}
use Rattle.std.proofs.lemmas.List.{flat_map_more, take_more}
use Rattle.mc_sim.specs.declared.sim.LogEntry.{LogEntry}
use Rattle.mc_replay.specs.Report.{entry_line}
use Rattle.mc_replay.proofs.run.push_log.Goals as goal

-- the text has the line of one entry more
one_more : (log : List LogEntry) (index : ℕ) (none : LogEntry) (begin text grown : List ℕ) → index < length log → text
    ≡ begin ++ flat_map entry_line (take index log) → grown ≡ text ++ entry_line (get_or log index none)
    → grown ≡ begin ++ flat_map entry_line (take (index + 1) log)
one_more log index none begin text grown here so_far more =
    more ∙ (ap (λ (lines : List ℕ). lines ++ entry_line (get_or log index none)) so_far
    ∙ (flat_map_more entry_line begin (take index log) (get_or log index none)
    ∙ ap (λ (entries : List LogEntry). begin ++ flat_map entry_line entries) (sym (take_more log index none here))))

pub loop-entry-preserved : goal.loop-entry-preserved
loop-entry-preserved c =
    one_more c.args.log.now c.loop-entry.entry-index _ c.args.text.now.items c.loop-entry.text.items _
    c.loop-entry-test.true c.loop-entry.invariant c.in_ok-push_entry.ensures
