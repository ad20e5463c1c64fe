-- Worked replies, each computed from the command and its answers.
use Rattle.std.proofs.Common.{◌≡◌, ℕ, Bool, true, false, List, [], ◌∷◌, ◌++◌, Option, Some, None, refl, replicate}
use Rattle.std.specs.Prelude.{codes, map, pos}
use Rattle.std.specs.Fmt.{digits}
use Rattle.mc_command.specs.declared.command.Command.{Command}
use Rattle.mc_command.specs.declared.command.Command.TheVariants as command
use Rattle.mc_command.specs.declared.command.Direction.TheVariants as direction
use Rattle.mc_command.specs.declared.command.StoreMode.{StoreMode}
use Rattle.mc_command.specs.declared.command.StoreMode.TheVariants as mode
use Rattle.mc_command.specs.declared.meta.MetaFlags.{MetaFlags}
use Rattle.mc_command.specs.declared.meta.ReturnFlag.{ReturnFlag}
use Rattle.mc_command.specs.declared.meta.ReturnFlag.TheVariants as flag
use Rattle.mc_command.specs.declared.error.CommandError.TheVariants as refusal
use Rattle.mc_command.specs.declared.command.StatsRequest.TheVariants as request
use Rattle.mc_command.specs.declared.rules.Profile.TheVariants.{DropIn, Own}
use Rattle.mc_item.specs.declared.op_stats.StatClass.TheVariants as asked
use Rattle.mc_item.specs.declared.op_stats.Status.TheVariants as status
use Rattle.mc_item.specs.OpStats.{no_counts, noted}
use Rattle.mc_item.specs.declared.answer.Answer.{Answer}
use Rattle.mc_item.specs.declared.answer.Answer.TheVariants as answer
use Rattle.mc_reply.specs.declared.server_stats.ServerStats.{ServerStats}
use Rattle.mc_reply.specs.Server.{no_server}
use Rattle.mc_reply.specs.ReplyKind.{reply_kind_of}
use Rattle.mc_reply.specs.Text.{reply_kind_text, text_of}
use Rattle.mc_wire.specs.Base64Key.{base64_of}

abbrev got : List (List ℕ) → Bool → Command
got keys with_unique = command.Get (record { keys = keys; touch = None; with_unique = with_unique })

-- a hit of a value of one byte
abbrev hit_x : Answer
hit_x = answer.Hit 0 1 (codes "x")

-- the items are in the order of the keys, a repeated one each time, and a miss returns nothing; if memory was
-- refused for one part, that is the whole reply
gets : (text_of no_server (got (codes "a" ∷ codes "b" ∷ codes "a" ∷ codes "c" ∷ []) false)
    (hit_x ∷ answer.Hit 0 2 (codes "yy") ∷ hit_x ∷ answer.Miss ∷ [])
    ≡ codes "VALUE a 0 1\r\nx\r\nVALUE b 0 2\r\nyy\r\nVALUE a 0 1\r\nx\r\nEND\r\n")
    × (text_of no_server (got (codes "a" ∷ []) true) (answer.Hit 5 1 (codes "abc") ∷ [])
    ≡ codes "VALUE a 5 3 1\r\nabc\r\nEND\r\n")
    × (text_of no_server (got (codes "a" ∷ codes "b" ∷ []) false) (hit_x ∷ answer.NoMemory ∷ [])
    ≡ codes "SERVER_ERROR out of memory\r\n")
unfolding reply_kind_of reply_kind_text digits
gets = (refl, refl, refl)

-- a refusal is shown as it is
lines : (text_of no_server (command.FlushAll (pos 10) false) (answer.Done ∷ answer.Done ∷ []) ≡ codes "OK\r\n")
    × (text_of no_server (command.Count (codes "a") direction.Increment 1 true) (answer.NonNumeric ∷ []) ≡ [])
    × (text_of no_server (command.Count (codes "a") direction.Increment 1 false) (answer.Number 8 ∷ []) ≡ codes "8\r\n")
    × (text_of no_server (command.Refused refusal.BadChunk) [] ≡ codes "CLIENT_ERROR bad data chunk\r\n")
unfolding reply_kind_of reply_kind_text digits
lines = (refl, refl, refl, refl)

-- the flags of a meta command
abbrev flags_of : Bool → Bool → List ReturnFlag → List ℕ → MetaFlags
flags_of base64 quiet returned token =
    record { base64 = base64; quiet = quiet; profile = Own; returned = returned; opaque = token }

abbrev meta_get : List ℕ → MetaFlags → Bool → Command
meta_get key flags value =
    command.MetaGet (record {
      asked =
          record { key = key; touch = None; vivify = None; recache = None; unnoted = false };
      flags = flags;
      value = value;
    })

abbrev meta_set : List ℕ → MetaFlags → Command
meta_set key flags =
    command.MetaSet (record {
      asked =
          record {
            key = key;
            mode = mode.Set;
            compare = None;
            unique = None;
            flags = 0;
            exptime = pos 0;
            value = codes "x";
          };
      flags = flags;
    })

abbrev meta_hit : List ℕ → ℕ → Option ℕ → Bool → Bool → Bool → Answer
meta_hit value unique left won stale sent =
    answer.MetaHit (record {
      value = value;
      flags = 0;
      unique = unique;
      fetched = true;
      idle = 2;
      left = left;
      marks = record { won = won; stale = stale; sent = sent };
    })

abbrev meta_done : ℕ → ℕ → ℕ → Answer
meta_done unique size number = answer.MetaDone (record { unique = unique; size = size; left = None; number = number })

-- an item made by this command, and one that another client was asked to recompute: the marks come last
hits : (text_of no_server (meta_get (codes "a") (flags_of false false (flag.TimeLeft ∷ []) []) true)
    (meta_hit [] 1 (Some 30) true false false ∷ []) ≡ codes "VA 0 t30 W\r\n\r\n")
    × (text_of no_server (meta_get (codes "a") (flags_of false false (flag.Unique ∷ []) []) true)
    (meta_hit (codes "x") 5 None false true true ∷ []) ≡ codes "VA 1 c5 X Z\r\nx\r\n")
    × (text_of no_server (meta_get (codes "a")
    (flags_of false false (flag.Fetched ∷ flag.LastAccess ∷ flag.TimeLeft ∷ []) []) false) (meta_hit (codes "x") 1
    (Some 93) false false false ∷ [])
    ≡ codes "HD h1 l2 t93\r\n")
unfolding reply_kind_of reply_kind_text digits
hits = (refl, refl, refl)

-- a miss returns only the key and the token, in the order of the request
misses : (text_of no_server
    (meta_get (codes "zz") (flags_of false false (flag.Key ∷ flag.Size ∷ flag.Opaque ∷ []) (codes "7")) true)
    (answer.Miss ∷ []) ≡ codes "EN kzz O7\r\n")
    × (text_of no_server (meta_get (codes "zz") (flags_of false true (flag.Key ∷ []) []) true) (answer.Miss ∷ []) ≡ [])
unfolding reply_kind_of reply_kind_text digits
misses = (refl, refl)

-- a key whose base64 is `YQ==` is returned so, followed by `b`
coded_key : (key : List ℕ) → base64_of key ≡ codes "YQ=="
    → text_of no_server (meta_get key (flags_of true false (flag.Key ∷ []) []) true)
    (meta_hit (codes "x") 1 None false false false ∷ []) ≡ codes "VA 1 kYQ== b\r\nx\r\n"
unfolding reply_kind_of reply_kind_text digits
coded_key key coded = rw coded refl

-- quiet `ms` hides that it stored, and nothing else; an error line has no flags
sets : (text_of no_server (meta_set (codes "a") (flags_of false true (flag.Unique ∷ []) [])) (meta_done 5 1 0 ∷ [])
    ≡ [])
    × (text_of no_server (meta_set (codes "a") (flags_of false true (flag.Size ∷ flag.Opaque ∷ []) (codes "2")))
    (answer.NotStored ∷ []) ≡ codes "NS O2\r\n")
    × (text_of no_server (meta_set (codes "a")
    (flags_of false false (flag.Key ∷ flag.Opaque ∷ flag.Size ∷ []) (codes "1"))) (meta_done 1 1 0 ∷ [])
    ≡ codes "HD ka O1 s1\r\n")
    × (text_of no_server (meta_set (codes "a") (flags_of false true (flag.Key ∷ []) [])) (answer.TooLarge ∷ [])
    ≡ codes "SERVER_ERROR object too large for cache\r\n")
unfolding reply_kind_of reply_kind_text digits
sets = (refl, refl, refl, refl)

-- `ma` with `v` shows its number, also where it is quiet
arithmetic : text_of no_server
    (command.MetaArithmetic (record {
      asked =
          record {
            key = codes "c";
            compare = None;
            unique = None;
            direction = direction.Increment;
            amount = 2;
            exptime = None;
            vivify = None;
          };
      flags = flags_of false true (flag.Unique ∷ []) [];
      value = true;
    })) (meta_done 3 2 15 ∷ []) ≡ codes "VA 2 c3\r\n15\r\n"
unfolding reply_kind_of reply_kind_text digits
arithmetic = refl

-- By memcached's rules: the marks are in reverse order, `ms` returns unique 0 for an item that it did not
-- store, even if it is quiet, and a joined value that is too large counts as not stored.
abbrev by_memcached : MetaFlags → MetaFlags
by_memcached flags = record flags { profile = DropIn }

abbrev joined : StoreMode → Bool → Bool → Command
joined mode noreply lenient =
    command.Store (record {
      asked =
          record {
            key = codes "a";
            mode = mode;
            compare = None;
            unique = None;
            flags = 0;
            exptime = pos 0;
            value = codes "x";
          };
      noreply = noreply;
      lenient = lenient;
    })

-- the reply to `ms` with these flags in this mode, whose value is too large
abbrev ms_too_large : MetaFlags → StoreMode → List ℕ
ms_too_large flags mode =
    text_of no_server (command.MetaSet
    (record {
      asked = record {
        key = codes "a";
        mode = mode;
        compare = None;
        unique = None;
        flags = 0;
        exptime = pos 0;
        value = codes "x";
      };
      flags = flags;
    })) (answer.TooLarge ∷ [])

memcached_marks : (text_of no_server
    (meta_get (codes "a") (by_memcached (flags_of false false (flag.Unique ∷ []) [])) true)
    (meta_hit (codes "x") 5 None false true true ∷ []) ≡ codes "VA 1 c5 Z X\r\nx\r\n")
    × (text_of no_server (meta_get (codes "a") (by_memcached (flags_of false false [] [])) false)
    (meta_hit (codes "x") 5 None true true false ∷ []) ≡ codes "HD X W\r\n")
    × (text_of no_server (meta_get (codes "a") (flags_of false false [] []) false)
    (meta_hit (codes "x") 5 None true true false ∷ []) ≡ codes "HD W X\r\n")
unfolding reply_kind_of reply_kind_text digits
memcached_marks = (refl, refl, refl)

memcached_zero : (text_of no_server
    (meta_set (codes "a") (by_memcached (flags_of false true (flag.Key ∷ flag.Unique ∷ flag.Opaque ∷ []) (codes "1"))))
    (answer.NotStored ∷ []) ≡ codes "NS ka c0 O1\r\n")
    × (text_of no_server (meta_set (codes "a") (by_memcached (flags_of false false (flag.Unique ∷ flag.Size ∷ []) [])))
    (answer.Exists ∷ []) ≡ codes "EX c0\r\n")
    × (text_of no_server (meta_set (codes "a") (by_memcached (flags_of false false (flag.Unique ∷ []) [])))
    (answer.NotFound ∷ []) ≡ codes "NF c0\r\n")
    × (text_of no_server (meta_set (codes "a") (flags_of false false (flag.Unique ∷ []) [])) (answer.NotFound ∷ [])
    ≡ codes "NF\r\n")
    × (text_of no_server (command.MetaArithmetic
    (record {
      asked = record {
        key = codes "c";
        compare = None;
        unique = None;
        direction = direction.Increment;
        amount = 2;
        exptime = None;
        vivify = None;
      };
      flags = by_memcached (flags_of false false (flag.Unique ∷ []) []);
      value = false;
    })) (answer.NotFound ∷ []) ≡ codes "NF\r\n")
unfolding reply_kind_of reply_kind_text digits
memcached_zero = (refl, refl, refl, refl, refl)

joined_too_large : (text_of no_server (joined mode.Append false true) (answer.TooLarge ∷ []) ≡ codes "NOT_STORED\r\n")
    × (text_of no_server (joined mode.Append true true) (answer.TooLarge ∷ []) ≡ [])
    × (text_of no_server (joined mode.Append false false) (answer.TooLarge ∷ [])
    ≡ codes "SERVER_ERROR object too large for cache\r\n")
unfolding reply_kind_of reply_kind_text digits
joined_too_large = (refl, refl, refl)

abbrev quiet_flags : MetaFlags
quiet_flags = flags_of false true (flag.Unique ∷ flag.Key ∷ []) []

-- It counts so in the modes that join alone, and by memcached's rules alone.
ms_joined_too_large : (map (ms_too_large (by_memcached quiet_flags)) (mode.Append ∷ mode.Prepend ∷ [])
    ≡ replicate 2 (codes "NS c0 ka\r\n"))
    × (map (ms_too_large (by_memcached quiet_flags)) (mode.Set ∷ mode.Add ∷ mode.Replace ∷ [])
    ≡ replicate 3 (codes "SERVER_ERROR object too large for cache\r\n"))
    × (map (ms_too_large quiet_flags) (mode.Append ∷ mode.Prepend ∷ [])
    ≡ replicate 2 (codes "SERVER_ERROR object too large for cache\r\n"))
unfolding reply_kind_of reply_kind_text digits
ms_joined_too_large = (refl, refl, refl)

-- a shard with two gets, of which one hit, and another with one hit, one store with a unique, and the maximum
-- number of evictions
abbrev first_shard : Answer
first_shard =
    answer.Stats (record {
      op_stats = noted (noted no_counts asked.Get status.Hit) asked.Get status.Miss;
      evicted = 3;
      items = 4;
      bytes = 400;
      budget = 1000;
    })

abbrev second_shard : Answer
second_shard =
    answer.Stats (record {
      op_stats = noted (noted no_counts asked.Get status.Hit) asked.Cas status.Hit;
      evicted = 18446744073709551615;
      items = 5;
      bytes = 500;
      budget = 1000;
    })

-- a server with a seat of three taken, and less than a second of CPU time in the kernel
abbrev some_server : ServerStats
some_server =
    record {
      pid = 17;
      uptime = 60;
      time = 1700000060;
      user_time = 1234;
      system_time = 5;
      max_connections = 3;
      curr_connections = 1;
      total_connections = 9;
      rejected_connections = 2;
      bytes_read = 1000;
      bytes_written = 2000;
    }

-- The numbers of the shards are added, modulo 2^64.
counts : text_of some_server (command.Stats request.General) (first_shard ∷ second_shard ∷ [])
    ≡ codes
    "STAT pid 17\r\nSTAT uptime 60\r\nSTAT time 1700000060\r\nSTAT version 1.6.18\r\nSTAT rusage_user 12.340000\r\nSTAT rusage_system 0.050000\r\n"
    ++ codes
    "STAT max_connections 3\r\nSTAT curr_connections 1\r\nSTAT total_connections 9\r\nSTAT rejected_connections 2\r\n"
    ++ codes
    "STAT cmd_get 3\r\nSTAT cmd_set 1\r\nSTAT cmd_flush 0\r\nSTAT cmd_touch 0\r\nSTAT get_hits 2\r\nSTAT get_misses 1\r\n"
    ++ codes
    "STAT delete_misses 0\r\nSTAT delete_hits 0\r\nSTAT incr_misses 0\r\nSTAT incr_hits 0\r\nSTAT decr_misses 0\r\nSTAT decr_hits 0\r\n"
    ++ codes
    "STAT cas_misses 0\r\nSTAT cas_hits 1\r\nSTAT cas_badval 0\r\nSTAT touch_hits 0\r\nSTAT touch_misses 0\r\nSTAT store_too_large 0\r\n"
    ++ codes "STAT bytes_read 1000\r\nSTAT bytes_written 2000\r\nSTAT limit_maxbytes 2000\r\nSTAT threads 2\r\n"
    ++ codes
    "STAT bytes 900\r\nSTAT curr_items 9\r\nSTAT total_items 1\r\nSTAT expired_unfetched 0\r\nSTAT evictions 2\r\nSTAT reclaimed 0\r\nEND\r\n"
unfolding reply_kind_of reply_kind_text digits
counts = refl

-- what other words behind `stats` are answered with, and the release
other_counts : (text_of no_server (command.Stats request.Reset) (answer.Reset ∷ answer.Reset ∷ []) ≡ codes "RESET\r\n")
    × (text_of no_server (command.Stats request.Empty) [] ≡ codes "END\r\n")
    × (text_of no_server (command.Stats request.General) (first_shard ∷ answer.NoMemory ∷ [])
    ≡ codes "SERVER_ERROR out of memory\r\n")
    × (text_of no_server (command.Version DropIn) [] ≡ codes "VERSION 1.6.18\r\n")
unfolding reply_kind_of reply_kind_text digits
other_counts = (refl, refl, refl, refl)
