use Rattle.std.proofs.Common.{◌≡◌, drop}
use Rattle.std.proofs.Common.{◌∷◌}
use Rattle.std.specs.List.{flat_map}
use Rattle.rf_jview.specs.MarkWords.{plains}
use Rattle.rf_jtree.specs.NameTrees.{tok_yield}
use Rattle.rf_jview.specs.declared.marks.Mark.TheVariants as m
use Rattle.rf_jview.specs.Accounts.{noted}
use Rattle.rf_jview.proofs.mods.many_toks.Given as goal

abbrev pub invariant-loop-item : goal.invariant-loop-item
invariant-loop-item l = noted l.account (plains (flat_map (λ item. item.0 ∷ tok_yield item.1) (drop l._item-index l.fn.many.rest))) ≡ noted l.fn.account (m.Plain ∷ plains (flat_map (λ item. item.0 ∷ tok_yield item.1) l.fn.many.rest))
