use Rattle.std.proofs.Common.{◌≡◌, ◌++◌, drop}
use Rattle.rf_jtree.specs.NameText.{name_text}
use Rattle.rf_jtree.proofs.DottedLemmas.{behind_points}
use Rattle.rf_jtree.proofs.names.Name.text.Given as goal

abbrev pub invariant-loop-item : goal.invariant-loop-item
invariant-loop-item l = l.text ++ behind_points (drop l.item-index l.self.ids.rest) ≡ name_text l.self
