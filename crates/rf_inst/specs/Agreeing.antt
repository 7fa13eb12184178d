-- An instance and the table of its properties.
use Rattle.std.specs.Prelude.{◌≡◌, length, map, take}
use Rattle.rf_facts.specs.declared.properties.PropTable.{PropTable}
use Rattle.rf_inst.specs.declared.instances.Inst.{Inst}
use Rattle.rf_inst.specs.Conditions.{IsTable}

-- the properties of the instance are the rows of the table, with their values
pub record Agrees (i : Inst) (table : PropTable) : Type 0 where
  pub fits : IsTable table
  pub count : i.props ≡ length table.rows
  pub values : take (length table.rows) i.vals ≡ map (λ row. row.vals) table.rows
