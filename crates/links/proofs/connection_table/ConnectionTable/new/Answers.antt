use Rattle.rx_base.specs.declared.item.TheConstants.{CONNECTIONS}
use Rattle.links.proofs.Terms.{nat_lt}
use Rattle.links.proofs.Tables.{new_table}
use Rattle.links.proofs.connection_table.ConnectionTable.new.Goals as goal

pub returns : goal.returns
returns c conn = new_table (nat_lt conn CONNECTIONS) CONNECTIONS conn
