-- The kinds of piece, and which answers are lawful for each.
use Rattle.std.specs.Prelude.{ℕ, Bool, true, false, List, Option, Some, None}
use Rattle.mc_item.specs.declared.op.Op.{Op}
use Rattle.mc_item.specs.declared.op.Op.TheVariants as op
use Rattle.mc_item.specs.declared.answer.Kind.{Kind}
use Rattle.mc_item.specs.declared.answer.Kind.TheVariants.{Store, Fetch, Count, Delete, Touch, Flush, Stats, ResetStats}
use Rattle.mc_item.specs.declared.answer.Kind.TheVariants.{MetaGet, MetaStore, MetaDelete, MetaCount}
use Rattle.mc_item.specs.declared.answer.Answer.{Answer}
use Rattle.mc_item.specs.declared.answer.Answer.TheVariants.{Stored, NotStored, Exists, NotFound, TooLarge, NoCas}
use Rattle.mc_item.specs.declared.answer.Answer.TheVariants.{NoMemory, Hit, Miss, Number, NonNumeric, Deleted, Touched}
use Rattle.mc_item.specs.declared.answer.Answer.TheVariants.{Done, MetaHit, MetaDone, Reset}
use Rattle.mc_item.specs.declared.answer.Answer.TheVariants as answer

unfoldable pub kind_of : Op → Kind
kind_of (op.Store store) = Store
kind_of (op.Fetch key touch) = Fetch
kind_of (op.Count key direction amount) = Count
kind_of (op.Delete key) = Delete
kind_of (op.Discard key) = Delete
kind_of (op.Touch key exptime) = Touch
kind_of (op.Flush delay) = Flush
kind_of op.Stats = Stats
kind_of op.ResetStats = ResetStats
kind_of (op.MetaGet get) = MetaGet
kind_of (op.MetaStore store) = MetaStore
kind_of (op.MetaDelete delete) = MetaDelete
kind_of (op.MetaCount count) = MetaCount

-- the key whose item is asked for; flush_all and stats have none
unfoldable pub key_of : Op → Option (List ℕ)
key_of (op.Store store) = Some store.key
key_of (op.Fetch key touch) = Some key
key_of (op.Count key direction amount) = Some key
key_of (op.Delete key) = Some key
key_of (op.Discard key) = Some key
key_of (op.Touch key exptime) = Some key
key_of (op.MetaGet get) = Some get.key
key_of (op.MetaStore store) = Some store.key
key_of (op.MetaDelete delete) = Some delete.key
key_of (op.MetaCount count) = Some count.key
key_of op = None

-- the table of kinds and their answers; no other answer is lawful
unfoldable pub is_lawful : Kind → Answer → Bool
is_lawful Store Stored = true
is_lawful Store NotStored = true
is_lawful Store Exists = true
is_lawful Store NotFound = true
is_lawful Store TooLarge = true
is_lawful Store NoCas = true
is_lawful Store NoMemory = true
is_lawful Fetch (Hit flags unique value) = true
is_lawful Fetch Miss = true
is_lawful Fetch NoMemory = true
is_lawful Count (Number number) = true
is_lawful Count NotFound = true
is_lawful Count NonNumeric = true
is_lawful Count NoCas = true
is_lawful Count NoMemory = true
is_lawful Delete Deleted = true
is_lawful Delete NotFound = true
is_lawful Touch Touched = true
is_lawful Touch NotFound = true
is_lawful Touch NoMemory = true
is_lawful Flush Done = true
is_lawful Stats (answer.Stats stats) = true
is_lawful Stats NoMemory = true
is_lawful ResetStats Reset = true
is_lawful MetaGet (MetaHit hit) = true
is_lawful MetaGet Miss = true
is_lawful MetaGet NoCas = true
is_lawful MetaGet NoMemory = true
is_lawful MetaStore (MetaDone done) = true
is_lawful MetaStore NotStored = true
is_lawful MetaStore Exists = true
is_lawful MetaStore NotFound = true
is_lawful MetaStore TooLarge = true
is_lawful MetaStore NoCas = true
is_lawful MetaStore NoMemory = true
is_lawful MetaDelete Deleted = true
is_lawful MetaDelete Done = true
is_lawful MetaDelete Exists = true
is_lawful MetaDelete NotFound = true
is_lawful MetaDelete NoCas = true
is_lawful MetaCount (MetaDone done) = true
is_lawful MetaCount Exists = true
is_lawful MetaCount NotFound = true
is_lawful MetaCount NonNumeric = true
is_lawful MetaCount NoCas = true
is_lawful MetaCount NoMemory = true
is_lawful kind answer = false
