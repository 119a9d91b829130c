-- In a table only connections below 4096 are open.
use Rattle.std.specs.Prelude.{◌≡◌, ℕ, ◌<◌, nat_lt, Bool, true, false, if◌then◌else◌, refl}
use Rattle.std.proofs.lemmas.Bool.{ltb-true}
use Rattle.links.specs.ConnectionTables.{phases_in}
use Rattle.links.specs.LinkForms.{gives_below_4096}
use Rattle.links.specs.Links.{Phase, Unopened, Open}
use Rattle.links.specs.declared.connection_table.ConnectionTable.{ConnectionTable}

only_where : (below : Bool) (phase : Phase) → (if below then phase else Unopened) ≡ Open → below ≡ true
only_where true phase open_now = refl
only_where false phase open_now = cc

-- a connection that is open is one that the link gives to
pub open_gives : (table : ConnectionTable) (conn : ℕ) → phases_in table conn ≡ Open → gives_below_4096 conn ≡ true
open_gives table conn open_now = only_where (nat_lt conn 4096) _ open_now

-- a connection that is open has a number below 4096
pub open_below : (table : ConnectionTable) (conn : ℕ) → phases_in table conn ≡ Open → conn < 4096
open_below table conn open_now = ltb-true conn 4096 (open_gives table conn open_now)
