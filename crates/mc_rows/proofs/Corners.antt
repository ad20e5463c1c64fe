-- Corners of the protocol that are easily got wrong, each computed by the definitions alone: the command
-- table, the pieces, the step and the texts. The time is second 1000.
use Rattle.std.proofs.Common.{◌≡◌, ℕ, List, [], ◌∷◌, ◌++◌, Option, Some, None, true, false, refl}
use Rattle.std.specs.Prelude.{codes}
use Rattle.std.specs.FinMap.{empty}
use Rattle.std.specs.Fmt.{digits}
use Rattle.base64.specs.Decode.{groups_error, groups_bytes, scan_steps}
use Rattle.base64.specs.GeneralPurpose.{decoded_of}
use Rattle.base64.specs.Rfc4648.{encode_symbols}
use Rattle.mc_command.specs.Name.{name_of}
use Rattle.mc_command.specs.Meta.{decoded_key, meta_line_of}
use Rattle.mc_command.specs.Table.{line_of}
use Rattle.mc_command.specs.Field.{is_key, word_count_refusal}
use Rattle.mc_command.specs.Classic.{keys_of}
use Rattle.mc_item.specs.declared.item.Item.{Item}
use Rattle.mc_item.specs.declared.item.Expiry.TheVariants.{Never, At}
use Rattle.mc_item.specs.declared.answer.Answer.TheVariants.{NotStored, Exists, Touched, Number, Stored, Hit}
use Rattle.mc_item.specs.declared.op.Op.{Op}
use Rattle.mc_item.specs.declared.op.Op.TheVariants as op
use Rattle.mc_item.specs.Kind.{key_of}
use Rattle.mc_item.specs.OpStats.{no_counts}
use Rattle.mc_item.specs.Value.{number_in}
use Rattle.mc_item.specs.Expiry.{expiry_of, is_dead, seconds_left}
use Rattle.mc_wire.specs.Base64Key.{base64_of, base64_bytes}
use Rattle.mc_wire.specs.Key.{fnv_of}
use Rattle.mc_wire.specs.Words.{words_of}
use Rattle.mc_wire.specs.Number.{number_of}
use Rattle.mc_store.specs.State.{State, Used, with_given, first, entered}
use Rattle.mc_store.specs.Step.{step_of}
use Rattle.mc_split.specs.Pieces.{pieces_of}
use Rattle.mc_reply.specs.Text.{reply_kind_text}
use Rattle.mc_reply.specs.ReplyKind.{reply_kind_of}
use Rattle.mc_rows.specs.Conversation.{Sent, replies, reply_on, outcomes_on, step_on, found_by}

-- The table of outcomes equals the step, whatever item is under the key.
step_on_is_step : (state : State) (op : Op) → step_on state op (found_by state op) ≡ step_of state op
unfolding step_of key_of
step_on_is_step state (op.Store asked) = refl
step_on_is_step state (op.Fetch key touch) = refl
step_on_is_step state (op.Count key direction amount) = refl
step_on_is_step state (op.Delete key) = refl
step_on_is_step state (op.Discard key) = refl
step_on_is_step state (op.Touch key exptime) = refl
step_on_is_step state (op.Flush delay) = refl
step_on_is_step state op.Stats = refl
step_on_is_step state op.ResetStats = refl
step_on_is_step state (op.MetaGet asked) = refl
step_on_is_step state (op.MetaStore asked) = refl
step_on_is_step state (op.MetaDelete asked) = refl
step_on_is_step state (op.MetaCount asked) = refl

abbrev line : List ℕ → Sent
line text = record { line = text; behind = [] }

abbrev block : List ℕ → List ℕ → Sent
block text behind = record { line = text; behind = behind }

-- the first of two shards, which has given this number of uniques
abbrev shard : ℕ → State
shard given =
    record {
      items = empty;
      turns = [];
      uses = 0;
      time = 1000;
      flush = None;
      given = given;
      index = 0;
      shards = 2;
      budget = 16777216;
      limit = 1048576;
      op_stats = no_counts;
      evicted = 0;
    }

-- an item with this value and the unique 1, just stored
abbrev item : List ℕ → Item
item value =
    record {
      value = value;
      flags = 0;
      expiry = Never;
      unique = 1;
      last_access = 1000;
      fetched = false;
      stale = false;
      sent = false;
    }

abbrev there : Item → Option Used
there item = Some (record { item = item; number = 0 })

-- what all rows compute with
computing : Unit {0}
unfolding decoded_of groups_error groups_bytes scan_steps encode_symbols line_of words_of name_of word_count_refusal
    number_of is_key keys_of meta_line_of decoded_key base64_bytes pieces_of reply_kind_of reply_kind_text fnv_of
    base64_of key_of number_in expiry_of is_dead seconds_left digits
computing = tt

-- Lines
record Lines : Type 0 where
  -- Only one carriage return, the one before the line feed, is no part of a word.
  return_inside_a_word : replies 1000 (line (codes "mn\r\r") ∷ line (codes "mn\r") ∷ [])
      ≡ codes "ERROR\r\nMN\r\n"
  -- Only spaces part words.
  tab_parts_no_words : replies 1000 (line (codes "get" ++ (9 ∷ []) ++ codes "a\r") ∷ [])
      ≡ codes "ERROR\r\n"
  -- The bytes of a data block are counted, whatever they are: here its end is missing.
  line_feed_ends_no_block : replies 1000 (block (codes "set a 0 0 1\r") (codes "x\nm") ∷ [])
      ≡ codes "CLIENT_ERROR bad data chunk\r\n"
  -- A line without words is no command.
  no_words : replies 1000 (line (codes "   \r") ∷ line [] ∷ [])
      ≡ codes "ERROR\r\nERROR\r\n"
  -- Words behind `quit` are passed over.
  quit_with_words : replies 1000 (line (codes "quit now\r") ∷ [])
      ≡ []
  -- Names are in lower case; the block of what is unknown is not skipped.
  upper_case : replies 1000 (line (codes "SET a 0 0 2\r") ∷ [])
      ≡ codes "ERROR\r\n"
  -- A storage line with a fault skips its block.
  bad_key_with_block : replies 1000
      (block
      (codes
      "set kkkkkkkkkkkkkkkkkkkkkkkkkkkkkkkkkkkkkkkkkkkkkkkkkkkkkkkkkkkkkkkkkkkkkkkkkkkkkkkkkkkkkkkkkkkkkkkkkkkkkkkkkkkkkkkkkkkkkkkkkkkkkkkkkkkkkkkkkkkkkkkkkkkkkkkkkkkkkkkkkkkkkkkkkkkkkkkkkkkkkkkkkkkkkkkkkkkkkkkkkkkkkkkkkkkkkkkkkkkkkkkkkkkkkkkkkkkkkkkkkkkkkkkkkkk 0 0 2\r")
      (codes "mn\r\n") ∷ [])
      ≡ codes "CLIENT_ERROR bad key\r\n"
  -- A skipped block is not looked at.
  skipped_without_an_end : replies 1000 (block (codes "set a x 0 2\r") (codes "abcd") ∷ [])
      ≡ codes "CLIENT_ERROR bad command line format\r\n"
  -- A wrong number of words skips a block too, if the length is in its place.
  too_many_words : replies 1000
      (block (codes "set a 0 0 1 noreply x\r") (codes "z\r\n") ∷ block (codes "cas a 0 0 1\r") (codes "z\r\n") ∷ [])
      ≡ codes "CLIENT_ERROR bad command line format\r\nCLIENT_ERROR bad command line format\r\n"
  -- Without a count in its place nothing is skipped; 21 digits are no number.
  no_count : replies 1000 (line (codes "set a 0 1\r") ∷ line (codes "set a 0 0 000000000000000000001\r") ∷ [])
      ≡ codes "CLIENT_ERROR bad command line format\r\nCLIENT_ERROR bad command line format\r\n"
  -- A value that is too large is reported only if nothing else is wrong, and `noreply` does not hide it.
  too_large_is_the_last_fault : replies 1000
      (block (codes "set a 0 0 1048577 x\r") [] ∷ block (codes "set a 0 0 1048577 noreply\r") [] ∷ [])
      ≡ codes "CLIENT_ERROR bad command line format\r\nSERVER_ERROR object too large for cache\r\n"
  -- Of a meta line the flags are judged first, then the key, then the count.
  flags_before_the_key : replies 1000
      (line
      (codes
      "mg kkkkkkkkkkkkkkkkkkkkkkkkkkkkkkkkkkkkkkkkkkkkkkkkkkkkkkkkkkkkkkkkkkkkkkkkkkkkkkkkkkkkkkkkkkkkkkkkkkkkkkkkkkkkkkkkkkkkkkkkkkkkkkkkkkkkkkkkkkkkkkkkkkkkkkkkkkkkkkkkkkkkkkkkkkkkkkkkkkkkkkkkkkkkkkkkkkkkkkkkkkkkkkkkkkkkkkkkkkkkkkkkkkkkkkkkkkkkkkkkkkkkkkkkkkk ?\r")
      ∷ line (codes "ms a x ?\r") ∷ [])
      ≡ codes "CLIENT_ERROR invalid flag\r\nCLIENT_ERROR invalid flag\r\n"
  -- Base64 has one spelling for each key, and the block is skipped.
  base64_that_is_not_canonical : replies 1000 (block (codes "ms YR== 2 b\r") (codes "mn\r\n") ∷ [])
      ≡ codes "CLIENT_ERROR bad key\r\n"
  -- Within one flag, a duplicate is reported before a token that is too long.
  duplicate_before_long_token : replies 1000 (line (codes "mg a O1 Oxxxxxxxxxxxxxxxxxxxxxxxxxxxxxxxxx\r") ∷ [])
      ≡ codes "CLIENT_ERROR duplicate flag\r\n"
  -- Each meta command has its own letters, and their case counts.
  each_command_has_its_flags : replies 1000
      (block (codes "ms a 0 v\r") (codes "\r\n") ∷ line (codes "mg a C1\r") ∷ line (codes "md a c\r") ∷ line
      (codes "ma a s\r") ∷ line (codes "mg a V\r") ∷ line (codes "ma a I\r") ∷ line (codes "md a x\r") ∷ [])
      ≡ codes
      "CLIENT_ERROR invalid flag\r\nCLIENT_ERROR invalid flag\r\nCLIENT_ERROR invalid flag\r\nCLIENT_ERROR invalid flag\r\nCLIENT_ERROR invalid flag\r\nCLIENT_ERROR invalid flag\r\nCLIENT_ERROR invalid flag\r\n"
  -- `C` is allowed in mode S alone.
  compare_in_another_mode : replies 1000 (block (codes "ms a 2 C1 Ma\r") (codes "mn\r\n") ∷ [])
      ≡ codes "CLIENT_ERROR bad command line format\r\n"
  -- The words of `gat` are judged from left to right, and it wants a key.
  exptime_before_the_keys : replies 1000
      (line (codes "gat x a" ++ (127 ∷ []) ++ codes "\r") ∷ line (codes "gat 0 a" ++ (127 ∷ []) ++ codes "\r") ∷ line
      (codes "gat 0\r") ∷ [])
      ≡ codes "CLIENT_ERROR bad command line format\r\nCLIENT_ERROR bad key\r\nCLIENT_ERROR bad command line format\r\n"
  -- `append` ignores flags and exptime, but they have to be numbers.
  append_reads_what_it_ignores : replies 1000 (block (codes "append a 4294967296 0 2\r") (codes "mn\r\n") ∷ [])
      ≡ codes "CLIENT_ERROR bad command line format\r\n"
  -- `noreply` is the last word.
  noreply_stands_last : replies 1000
      (line (codes "delete a noreply 0\r") ∷ line (codes "flush_all noreply noreply\r") ∷ line
      (codes "verbosity noreply\r") ∷ [])
      ≡ codes
      "CLIENT_ERROR bad command line format\r\nCLIENT_ERROR bad command line format\r\nCLIENT_ERROR bad command line format\r\n"
  -- An exptime has 64 bits.
  exptime_past_64_bits : replies 1000 (block (codes "set a 0 9223372036854775808 1\r") (codes "x\r\n") ∷ [])
      ≡ codes "CLIENT_ERROR bad command line format\r\n"
  -- `noreply` hides no fault of its line, nor of its block.
  noreply_hides_no_refusal : replies 1000
      (block (codes "set a 0 0 1 noreply\r") (codes "xyz") ∷ line (codes "incr a x noreply\r") ∷ [])
      ≡ codes "CLIENT_ERROR bad data chunk\r\nCLIENT_ERROR bad command line format\r\n"
  -- `mn`, `version` and `verbosity` answer at once.
  words_behind_mn : replies 1000
      (line (codes "mn k O1\r") ∷ line (codes "version x\r") ∷ line (codes "verbosity 1\r") ∷ line
      (codes "verbosity 1 noreply\r") ∷ [])
      ≡ codes "MN\r\nVERSION 1.6.0-sharded\r\nOK\r\n"

lines_are : Lines
unfolding computing
lines_are = assumption refl

-- Commands with this item under their key: what is skipped, and what `noreply` and `q` hide
record Hidden : Type 0 where
  -- The bytes of a data block are no command.
  commands_inside_a_block : reply_on (shard 0) (block (codes "set a 0 0 6\r") (codes "get a\n\r\n")) None
      ≡ codes "STORED\r\n"
  -- A token joined to a flag that takes none is passed over.
  token_on_a_bare_flag : reply_on (shard 1) (line (codes "mg a vxyz kq\r")) (there (item (codes "x")))
      ≡ codes "VA 1 ka\r\nx\r\n"
  -- In the place of a key `noreply` is a key.
  noreply_as_a_key : reply_on (shard 1) (line (codes "get noreply\r")) (there (item (codes "x")))
      ≡ codes "VALUE noreply 0 1\r\nx\r\nEND\r\n"
  -- `noreply` hides whatever a shard answers.
  noreply_hides_an_error : reply_on (shard 1) (line (codes "incr a 1 noreply\r")) (there (item (codes "x")))
      ≡ []
  -- The `q` of ms hides that it is stored,
  quiet_set : reply_on (shard 1) (block (codes "ms a 1 q\r") (codes "x\r\n")) None
      ≡ []
  -- but not NS,
  quiet_set_that_is_not_stored : reply_on (shard 1) (block (codes "ms a 1 ME q\r") (codes "y\r\n"))
      (there (item (codes "x")))
      ≡ codes "NS\r\n"
  -- nor EX,
  quiet_set_of_another_unique : reply_on (shard 1) (block (codes "ms a 1 C9 q\r") (codes "y\r\n"))
      (there (item (codes "x")))
      ≡ codes "EX\r\n"
  -- nor NF.
  quiet_set_of_nothing : reply_on (shard 1) (block (codes "ms c 1 C9 q\r") (codes "y\r\n")) None
      ≡ codes "NF\r\n"
  -- The `q` of md hides NF too,
  quiet_delete_of_nothing : reply_on (shard 1) (line (codes "md a q\r")) None
      ≡ []
  -- but not EX,
  quiet_delete_of_another_unique : reply_on (shard 1) (line (codes "md a q C9\r")) (there (item (codes "5")))
      ≡ codes "EX\r\n"
  -- and that of ma likewise,
  quiet_count_of_another_unique : reply_on (shard 1) (line (codes "ma a q C9\r")) (there (item (codes "5")))
      ≡ codes "EX\r\n"
  -- which hides HD
  quiet_count : reply_on (shard 1) (line (codes "ma a q\r")) (there (item (codes "5")))
      ≡ []
  -- but not VA.
  quiet_count_with_its_number : reply_on (shard 1) (line (codes "ma a q v\r")) (there (item (codes "6")))
      ≡ codes "VA 1\r\n7\r\n"
  -- The `q` of mg hides EN alone.
  quiet_get : reply_on (shard 1) (line (codes "mg a q\r")) (there (item (codes "x")))
      ≡ codes "HD\r\n"
  -- Then nothing is written.
  quiet_miss : reply_on (shard 1) (line (codes "mg c q\r")) None
      ≡ []

hidden_are : Hidden
unfolding computing
hidden_are = assumption refl

-- What is returned, and in which order it is judged
record Returned : Type 0 where
  -- An error line has no flags.
  errors_have_no_flags : reply_on (shard 1) (line (codes "ma a k O1\r")) (there (item (codes "x")))
      ≡ codes "CLIENT_ERROR cannot increment or decrement non-numeric value\r\n"
  -- Without success only the key and the opaque token are returned,
  only_key_and_opaque_without_success : reply_on (shard 1) (block (codes "ms a 1 ME k s c O9\r") (codes "y\r\n"))
      (there (item (codes "x")))
      ≡ codes "NS ka O9\r\n"
  -- of a miss too.
  only_key_and_opaque_of_a_miss : reply_on (shard 1) (line (codes "mg c s O1 t k c f h l v\r")) None
      ≡ codes "EN O1 kc\r\n"
  -- The mark of a base64 key follows the key wherever `b` is,
  base64_mark_behind_the_key : reply_on (shard 1) (line (codes "mg YQ== b O1 k\r")) None
      ≡ codes "EN O1 kYQ== b\r\n"
  -- and nowhere where no key is returned.
  no_base64_mark_without_the_key : reply_on (shard 1) (line (codes "mg YQ== b\r")) None
      ≡ codes "EN\r\n"
  -- A counter that is made holds its number without padding, and nothing is added to it.
  a_counter_is_made : reply_on (shard 0) (line (codes "ma a N0 J007 D5 k v t c O\r")) None
      ≡ codes "VA 1 ka t-1 c1 O\r\n7\r\n"
  -- For a counter that is created, the requested unique is ignored,
  a_unique_of_nothing : reply_on (shard 0) (line (codes "ma a C9 N0 J3 v\r")) None
      ≡ codes "VA 1\r\n3\r\n"
  -- and without `N` nothing is there.
  a_unique_of_nothing_to_make : reply_on (shard 0) (line (codes "ma c C9\r")) None
      ≡ codes "NF\r\n"
  -- The unique is judged before the number.
  unique_before_number : reply_on (shard 1) (line (codes "ma a C9\r")) (there (item (codes "x")))
      ≡ codes "EX\r\n"

returned_are : Returned
unfolding computing
returned_are = assumption refl

-- Times, and the marks of items
record Times : Type 0 where
  -- The time left is the one after `T`, wherever `t` is.
  time_left_is_the_new_one : reply_on (shard 1) (line (codes "mg a t T30\r")) (there (item (codes "x")))
      ≡ codes "HD t30\r\n"
  -- `T0` is for ever.
  never_by_t_0 : reply_on (shard 1) (line (codes "mg a T0 t\r"))
      (there (record (item (codes "x")) { expiry = At 1010 }))
      ≡ codes "HD t-1\r\n"
  -- `T-1` leaves no second, and this hit is still shown.
  dead_by_t_below_0 : reply_on (shard 1) (line (codes "mg a t T-1 v\r")) (there (item (codes "x")))
      ≡ codes "VA 1 t0\r\nx\r\n"
  -- `R` looks at the seconds left before `T`.
  recache_by_the_time_before : reply_on (shard 1) (line (codes "mg a T100 R30 t\r"))
      (there (record (item (codes "x")) { expiry = At 1010 }))
      ≡ codes "HD t100 W\r\n"
  -- As many seconds left as `R` names are not fewer,
  recache_of_equal_seconds : reply_on (shard 1) (line (codes "mg a R30\r"))
      (there (record (item (codes "x")) { expiry = At 1030 }))
      ≡ codes "HD\r\n"
  -- and one less is.
  recache_of_fewer_seconds : reply_on (shard 1) (line (codes "mg a R31\r"))
      (there (record (item (codes "x")) { expiry = At 1030 }))
      ≡ codes "HD W\r\n"
  -- A later client sees that another one was asked to recompute.
  someone_was_flow : reply_on (shard 1) (line (codes "mg a\r")) (there (record (item (codes "x")) { sent = true }))
      ≡ codes "HD Z\r\n"
  -- A client that creates an item by a get is asked to fill it; `T` and `R` do nothing then.
  made_by_a_get : reply_on (shard 0) (line (codes "mg a N30 T99 R50 t h l f s c v\r")) None
      ≡ codes "VA 0 t30 h0 l0 f0 s0 c1 W\r\n\r\n"
  -- The next client sees that another one was asked.
  made_before : reply_on (shard 1) (line (codes "mg a N60 t\r"))
      (there (record (item []) { expiry = At 1030; sent = true }))
      ≡ codes "HD t30 Z\r\n"
  -- The first client to see a stale item is asked to recompute it,
  stale_and_flow : reply_on (shard 2) (line (codes "mg a v\r")) (there (record (item (codes "6")) { stale = true }))
      ≡ codes "VA 1 W X\r\n6\r\n"
  -- the second one is not.
  stale_and_not_flow : reply_on (shard 2) (line (codes "mg a\r"))
      (there (record (item (codes "6")) { stale = true; sent = true }))
      ≡ codes "HD X Z\r\n"
  -- ms in append ignores `F` and `T`; `s` is the size that is stored.
  appended_by_ms : reply_on (shard 1) (block (codes "ms a 1 MA F9 T99 s c\r") (codes "y\r\n"))
      (there (record (item (codes "x")) { flags = 7; expiry = At 1030 }))
      ≡ codes "HD s2 c3\r\n"

times_are : Times
unfolding computing
times_are = assumption refl

-- Numbers in values
record Numbers : Type 0 where
  -- A number has at most 20 digits,
  a_number_of_20_digits : reply_on (shard 1) (line (codes "incr a 1\r")) (there (item (codes "00000000000000000009")))
      ≡ codes "10\r\n"
  -- not 21,
  a_number_of_21_digits : reply_on (shard 1) (line (codes "incr a 1\r")) (there (item (codes "000000000000000000009")))
      ≡ codes "CLIENT_ERROR cannot increment or decrement non-numeric value\r\n"
  -- no space before it,
  a_leading_space : reply_on (shard 1) (line (codes "incr a 1\r")) (there (item (codes " 9")))
      ≡ codes "CLIENT_ERROR cannot increment or decrement non-numeric value\r\n"
  -- but maybe behind it,
  spaces_behind : reply_on (shard 1) (line (codes "incr a 1\r")) (there (item (codes "7  ")))
      ≡ codes "8\r\n"
  -- it is not empty,
  no_digits : reply_on (shard 1) (line (codes "incr a 1\r")) (there (item []))
      ≡ codes "CLIENT_ERROR cannot increment or decrement non-numeric value\r\n"
  -- and is below 2^64.
  past_64_bits : reply_on (shard 1) (line (codes "incr a 1\r")) (there (item (codes "18446744073709551616")))
      ≡ codes "CLIENT_ERROR cannot increment or decrement non-numeric value\r\n"
  -- An increment by 0 rewrites the number.
  by_nothing : reply_on (shard 1) (line (codes "incr a 0\r")) (there (item (codes "007")))
      ≡ codes "7\r\n"
  -- It wraps at 2^64,
  wrapped : reply_on (shard 1) (line (codes "incr a 1\r")) (there (item (codes "18446744073709551615")))
      ≡ codes "0\r\n"
  -- and a decrement stops at 0.
  not_below_0 : reply_on (shard 1) (line (codes "decr a 9\r")) (there (item (codes "5")))
      ≡ codes "0\r\n"
  -- `h` returns whether the item was fetched before.
  fetched_before : reply_on (shard 1) (line (codes "mg a h\r")) (there (item (codes "x")))
      ≡ codes "HD h0\r\n"
  fetched_again : reply_on (shard 1) (line (codes "mg a h\r")) (there (record (item (codes "x")) { fetched = true }))
      ≡ codes "HD h1\r\n"

numbers_are : Numbers
unfolding computing
numbers_are = assumption refl

-- What the shard holds after them
record Shards : Type 0 where
  -- A refused add makes its item the most recently used one,
  refused_add_is_a_use : outcomes_on (shard 1) (block (codes "add a 0 0 1\r") (codes "y\r\n"))
      (there (item (codes "x")))
      ≡ (NotStored, first (shard 1) (codes "a") (item (codes "x"))) ∷ []
  -- another refusal does not.
  refused_cas_is_no_use : outcomes_on (shard 1) (block (codes "cas a 0 0 1 99\r") (codes "y\r\n"))
      (there (item (codes "x")))
      ≡ (Exists, shard 1) ∷ []
  -- touch is a use, and leaves what was fetched,
  touch_keeps_fetched : outcomes_on (shard 1) (line (codes "touch a 30\r"))
      (there (record (item (codes "x")) { fetched = true }))
      ≡ (Touched, first (shard 1) (codes "a") (record (item (codes "x")) { fetched = true; expiry = At 1030 })) ∷ []
  -- and so does incr, which leaves the marks too;
  incr_keeps_fetched_and_stale : outcomes_on (shard 2) (line (codes "incr a 1\r"))
      (there (record (item (codes "5")) { fetched = true; stale = true; sent = true }))
      ≡ (
        Number 6,
        entered (with_given (shard 2)) None (codes "a")
            (record (item (codes "6")) { unique = 5; fetched = true; stale = true; sent = true }),
      ) ∷ []
  -- what append has made was not fetched yet;
  append_clears_fetched : outcomes_on (shard 1) (block (codes "append a 9 9 1\r") (codes "y\r\n"))
      (there (record (item (codes "x")) { flags = 7; fetched = true }))
      ≡ (Stored, entered (with_given (shard 1)) None (codes "a") (record (item (codes "xy")) { unique = 3; flags = 7 }))
      ∷ []
  -- gat fetches, and sets the expiry.
  a_get_and_touch_fetches : outcomes_on (shard 1) (line (codes "gat 30 a\r")) (there (item (codes "x")))
      ≡ (
        Hit 0 1 (codes "x"),
        first (shard 1) (codes "a")
            (record (item (codes "x")) { fetched = true; expiry = At 1030 }),
      ) ∷ []

shards_are : Shards
unfolding computing
shards_are = assumption refl
