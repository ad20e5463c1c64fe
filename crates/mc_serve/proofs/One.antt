-- Lines in memory, each with a source of its own.
use Rattle.std.proofs.Common.{◌≡◌, ℕ, suc, ◌<◌, true, List, [], ◌∷◌, ◌++◌, length, map, Some, None, refl, sym, ap}
use Rattle.std.proofs.Common.{subst, ◌∙◌, append-nil}
use Rattle.std.specs.List.{AllByRecursion, flat_map, slice_get}
use Rattle.std.proofs.lemmas.List.{length-map}
use Rattle.mc_wire.specs.Sink.{Sight}
use Rattle.mc_sizes.specs.declared.sizes.Sizes.{Sizes}
use Rattle.mc_conn.specs.History.{AnsweredCommand}
use Rattle.mc_model.specs.Log.{Entry, of_asker, on_shard}
use Rattle.mc_history.specs.Tokens.{Sight as Shown}
use Rattle.mc_poll.specs.Zips.{Zips}
use Rattle.mc_transport.specs.Explains.{ExplainsLine, IsLogOfLines, LineFlow, log_of}
use Rattle.mc_serve.specs.Over.{CameBack, ServesAll, lines_flow}
use Rattle.mc_serve.proofs.Zipped.{map_map, zips_seen}
use Rattle.mc_net.specs.Flow.{SourceFlow, IsFree, TellsLines, closed}
use Rattle.mc_serve.specs.Served.{ExplainsHistory, PassEach, PassesAll, ServesSources}
use Rattle.mc_net.specs.One.{IsBack, waits}
use Rattle.mc_ring.proofs.Lists.{get_map}

-- The single line of a source, which waited and was served.
one_line : (line : Sight) (lines : List LineFlow) (source : SourceFlow) (back : CameBack)
    → PassesAll (waits line) lines source → IsBack source back.line back.commands back.broke → lines
    ≡ record { begin = line; now = back.line; commands = back.commands; broke = back.broke } ∷ []
one_line line lines source back passes is =
    let flow = passes.passes in
    let rest = flow.0 in
    let one : LineFlow = record { begin = is.0; now = back.line; commands = back.commands; broke = back.broke } in
    let same : TellsLines rest None lines true ≡ TellsLines (Some []) None (one ∷ []) is.1 =
    sym (passes.over ∙ ap closed flow.2) ∙ is.2 in
    let lines_are : lines ≡ one ∷ [] = cc in
    let comes : line ∷ [] ≡ map (λ (l : LineFlow). l.begin) lines ++ flow.1.0 = flow.1.1 in
    let first : line ∷ [] ≡ is.0 ∷ flow.1.0 = comes
    ∙ ap (λ ls. map (λ (l : LineFlow). l.begin) ls ++ flow.1.0) lines_are in
    let begin : line ≡ is.0 = cc in
    lines_are ∙ ap (λ b. record { begin = b; now = back.line; commands = back.commands; broke = back.broke } ∷ [])
    (sym begin)

-- the line of each source
record EachHasOne (lines : List Sight) (seats : List (List LineFlow)) (backs : List CameBack) : Type 0 where
  seats_are : map (λ line. line ∷ []) (lines_flow lines backs) ≡ seats
  count : length backs ≡ length lines

each_one : (lines : List Sight) (seats : List (List LineFlow)) (sources : List SourceFlow) (backs : List CameBack)
    → PassEach (map waits lines) seats sources
    → Zips (λ source back. IsBack source back.line back.commands back.broke) sources backs
    → EachHasOne lines seats backs
each_one [] [] [] [] each zips = record { seats_are = refl; count = refl }
each_one [] [] [] (back ∷ backs) each zips = absurd zips
each_one [] [] (source ∷ sources) backs each zips = absurd each
each_one [] (s ∷ seats) sources backs each zips = absurd each
each_one (line ∷ lines) [] sources backs each zips = absurd each
each_one (line ∷ lines) (s ∷ seats) [] backs each zips = absurd each
each_one (line ∷ lines) (s ∷ seats) (source ∷ sources) [] each zips = absurd zips
each_one (line ∷ lines) (s ∷ seats) (source ∷ sources) (back ∷ backs) each zips =
    let rest = each_one lines seats sources backs each.1 zips.1 in
    let this = one_line line s source back each.0 zips.0 in
    record {
      seats_are =
          ap (λ x. x ∷ map (λ line. line ∷ []) (lines_flow lines backs)) (sym this) ∙ ap (λ xs. s ∷ xs) rest.seats_are;
      count = ap suc rest.count;
    }

one_history : (sizes : Sizes) (may_answer : ℕ → Type 0) (log : List Entry) (seat : ℕ) (line : LineFlow)
    (histories : List (List AnsweredCommand)) → Zips (ExplainsHistory sizes may_answer) (line ∷ []) histories
    → ((shard : ℕ) → shard < sizes.shards → of_asker seat (on_shard shard log)
    ≡ flat_map (λ history. on_shard shard (log_of sizes.shards seat history)) histories)
    → ExplainsLine sizes may_answer log seat line
one_history sizes may_answer log seat line [] each ran = absurd each
one_history sizes may_answer log seat line (history ∷ h ∷ histories) each ran = absurd each.1
one_history sizes may_answer log seat line (history ∷ []) each ran =
    let this = each.0 in
    record {
      history = history;
      story = this.story;
      reads = this.reads;
      answered = this.answered;
      moments = this.moments;
      counted = this.counted;
      ran = λ shard below. ran shard below ∙ append-nil (on_shard shard (log_of sizes.shards seat history));
    }

-- One log explains all lines, since it explains the line of each source.
pub serves_one : (sizes : Sizes) (may_answer : ℕ → Type 0) (lines : List Sight) (sources : List SourceFlow)
    (backs : List CameBack) (shown : Shown) → ServesSources sizes may_answer (map waits lines) sources shown
    → Zips (λ source back. IsBack source back.line back.commands back.broke) sources backs
    → ServesAll sizes may_answer lines backs shown
serves_one sizes may_answer lines sources backs shown serves zips =
    let ones = each_one lines serves.seats sources backs serves.back zips in
    let flow = lines_flow lines backs in
    let count : length serves.seats ≡ length flow = ap length (sym ones.seats_are)
    ∙ length-map flow (λ line. line ∷ []) in
    let L : ℕ → Type 0 = λ n. IsLogOfLines sizes n serves.log in
    record {
      as_many = ones.count;
      explained = record {
        log = serves.log;
        log_is = subst L count serves.log_is;
        each = λ number line here.
            let there : slice_get serves.seats number ≡ Some (line ∷ []) =
            ap (λ seats. slice_get seats number) (sym ones.seats_are)
            ∙ get_map (λ (line : LineFlow). line ∷ []) flow number line here in
            let seat = serves.each number (line ∷ []) there in
            one_history sizes may_answer serves.log number line seat.histories seat.each seat.ran;
      };
      history = serves.history;
    }

-- There are as many sources as lines.
pub same_count : {A C : Type 0} (flow : A → SourceFlow) (sight : C → Sight) (sources : List A) (lines : List C)
    → map flow sources ≡ map (λ line. waits (sight line)) lines → length sources ≡ length lines
same_count flow sight sources lines same =
    sym (length-map sources flow) ∙ (ap length same ∙ length-map lines (λ line. waits (sight line)))

-- These facts for any records that hold the lines.
pub over_all : {A B C : Type 0} (sizes_at : ℕ → Sizes) (may_answer : ℕ → Type 0) (flow : A → SourceFlow)
    (came : B → CameBack) (sight : C → Sight) (lines : List C) (sources back : List A) (report : List B)
    (shown : Shown)
    → map flow sources ≡ map (λ line. waits (sight line)) lines
    → ServesSources (sizes_at (length sources)) may_answer (map flow sources) (map flow back) shown
    → Zips (λ source one. IsBack (flow source) (came one).line (came one).commands (came one).broke) back report
    → ServesAll (sizes_at (length lines)) may_answer (map sight lines) (map came report) shown
over_all sizes_at may_answer flow came sight lines sources back report shown same serves zips =
    let count = same_count flow sight sources lines same in
    let before : map flow sources ≡ map waits (map sight lines) = same ∙ map_map sight waits lines in
    let P : ℕ → List SourceFlow → Type 0 = λ n ds. ServesSources (sizes_at n) may_answer ds (map flow back) shown in
    serves_one (sizes_at (length lines)) may_answer (map sight lines) (map flow back) (map came report) shown
    (subst (λ ds. P (length lines) ds) before (subst (λ n. P n (map flow sources)) count serves))
    (zips_seen back report (λ (source : SourceFlow) (one : CameBack). IsBack source one.line one.commands one.broke)
    flow came zips)

-- If every line waits, no line is out.
pub all_free : {A C : Type 0} (flow : A → SourceFlow) (sight : C → Sight) (sources : List A) (lines : List C)
    → map flow sources ≡ map (λ line. waits (sight line)) lines
    → AllByRecursion (λ source. IsFree (flow source)) sources
all_free flow sight [] lines same = tt
all_free flow sight (source ∷ sources) [] same = absurd (cc)
all_free flow sight (source ∷ sources) (line ∷ lines) same =
    let head : flow source ≡ waits (sight line) = cc in
    let tail : map flow sources ≡ map (λ line. waits (sight line)) lines = cc in
    let P : SourceFlow → Type 0 = λ d. IsFree d in
    (subst P (sym head) refl, all_free flow sight sources lines tail)
