-- Worked rows of the pieces and of the shape of the reply, each computed.
use Rattle.std.proofs.Common.{◌≡◌, true, false, [], ◌∷◌, Some, None, refl}
use Rattle.std.specs.Prelude.{codes, pos}
use Rattle.mc_wire.specs.Key.{fnv_of}
use Rattle.mc_command.specs.declared.command.Command.{Command}
use Rattle.mc_command.specs.declared.command.Command.TheVariants as command
use Rattle.mc_command.specs.declared.command.StatsRequest.TheVariants as request
use Rattle.mc_command.specs.declared.command.Direction.TheVariants as direction
use Rattle.mc_command.specs.declared.error.CommandError.TheVariants.{TooLarge}
use Rattle.mc_command.specs.declared.meta.MetaFlags.{MetaFlags}
use Rattle.mc_command.specs.declared.rules.Profile.TheVariants.{Own}
use Rattle.mc_command.specs.declared.meta.ReturnFlag.TheVariants as flag
use Rattle.mc_item.specs.declared.op.Op.TheVariants as op
use Rattle.mc_reply.specs.declared.pending_reply.ReplyKind.TheVariants as reply_kind
use Rattle.mc_reply.specs.declared.pending_reply.Fixed.TheVariants as fixed
use Rattle.mc_command.specs.declared.meta.MetaKind.TheVariants as kind
use Rattle.mc_split.specs.Pieces.{pieces_of}
use Rattle.mc_reply.specs.ReplyKind.{reply_kind_of}

-- the keys of a get in the order of the request, a repeated one each time: with two shards a and c are on the
-- first, b and d on the second
get_pieces : pieces_of 2
    (command.Get (record {
      keys = codes "a" ∷ codes "b" ∷ codes "a" ∷ codes "c" ∷ [];
      touch = Some (pos 10);
      with_unique = true;
    }))
    ≡ record { shard = 0; op = op.Fetch (codes "a") (Some (pos 10)) } ∷
    record { shard = 1; op = op.Fetch (codes "b") (Some (pos 10)) }
    ∷ record { shard = 0; op = op.Fetch (codes "a") (Some (pos 10)) } ∷
    record { shard = 0; op = op.Fetch (codes "c") (Some (pos 10)) } ∷ []
unfolding pieces_of fnv_of
get_pieces = refl

-- a flush on every shard, rising; noreply changes no piece; and what asks no shard
other_pieces : (pieces_of 3 (command.FlushAll (pos 5) true)
    ≡ record { shard = 0; op = op.Flush (pos 5) } ∷ record { shard = 1; op = op.Flush (pos 5) } ∷
    record { shard = 2; op = op.Flush (pos 5) } ∷ [])
    × (pieces_of 2 (command.Count (codes "d") direction.Decrement 9 true)
    ≡ record { shard = 1; op = op.Count (codes "d") direction.Decrement 9 } ∷ [])
    × (pieces_of 2 command.Quit ≡ [])
    × (pieces_of 2 (command.Discard (codes "d") TooLarge) ≡ record { shard = 1; op = op.Discard (codes "d") } ∷ [])
unfolding pieces_of fnv_of
other_pieces = (refl, refl, refl, refl)

-- the counts of every shard, rising; they begin again on every shard; and counts of other kinds ask none
stats_pieces : (pieces_of 2 (command.Stats request.General)
    ≡ record { shard = 0; op = op.Stats } ∷ record { shard = 1; op = op.Stats } ∷ [])
    × (pieces_of 2 (command.Stats request.Reset)
    ≡ record { shard = 0; op = op.ResetStats } ∷ record { shard = 1; op = op.ResetStats } ∷ [])
    × (pieces_of 2 (command.Stats request.Empty) ≡ [])
unfolding pieces_of
stats_pieces = (refl, refl, refl)

-- ma with N30 and J13
abbrev flags_k : MetaFlags
flags_k = record { base64 = false; quiet = true; profile = Own; returned = flag.TimeLeft ∷ flag.Key ∷ []; opaque = [] }

vivify_pieces : pieces_of 2
    (command.MetaArithmetic (record {
      asked =
          record {
            key = codes "c";
            compare = None;
            unique = None;
            direction = direction.Increment;
            amount = 1;
            exptime = None;
            vivify = Some (record { exptime = pos 30; initial = 13 });
          };
      flags = flags_k;
      value = true;
    }))
    ≡ record {
      shard = 0;
      op = op.MetaCount
          (record {
            key = codes "c";
            compare = None;
            unique = None;
            direction = direction.Increment;
            amount = 1;
            exptime = None;
            vivify = Some (record { exptime = pos 30; initial = 13 });
          });
    } ∷ []
unfolding pieces_of fnv_of
vivify_pieces = refl

abbrev deletion : MetaFlags → Command
deletion flags =
    command.MetaDelete (record {
      asked =
          record { key = codes "a"; compare = None; unique = None; invalidate = false; exptime = None };
      flags = flags;
    })

-- the key is kept for the reply where the flag k is given
shapes : (reply_kind_of (deletion flags_k) ≡ reply_kind.Meta kind.Delete flags_k false (Some (codes "a")) false)
    × (reply_kind_of (deletion (record flags_k { returned = flag.TimeLeft ∷ [] }))
    ≡ reply_kind.Meta kind.Delete (record flags_k { returned = flag.TimeLeft ∷ [] }) false None false)
    × (reply_kind_of (command.Verbosity true) ≡ reply_kind.Fixed fixed.Nothing)
    × (reply_kind_of (command.Verbosity false) ≡ reply_kind.Fixed fixed.Ok)
    × (reply_kind_of (command.Discard (codes "a") TooLarge) ≡ reply_kind.Fixed (fixed.Refused TooLarge))
unfolding reply_kind_of
shapes = (refl, refl, refl, refl, refl)
