-- Where no further modifier stands, the loop has read all of them.
use Rattle.std.proofs.Common.{List, sym, subst}
use Rattle.std.proofs.lemmas.List.{map-append}
use Rattle.rf_jtree.specs.declared.names.Mod.{Mod}
use Rattle.rf_jtree.specs.NameShown.{mods_shown}
use Rattle.rf_jexpr.proofs.TurnLemmas.{IsAtTurn, first-turn, next-turn, last-turn}
use Rattle.rf_jmods.specs.ModReads.{modifier, mods}
use Rattle.rf_jmods.proofs.modifiers.mods.Goals as goal

pub loop-list-init : goal.loop-list-init
loop-list-init c = subst (λ (xs : List Mod). IsAtTurn modifier c.args.t.now c.args.at (mods_shown xs) c.args.at) (sym c.new-list.ensures) (first-turn modifier c.args.t.now c.args.at c.requires)

pub loop-list-preserved : goal.loop-list-preserved
loop-list-preserved c =
    let tried = rw c.in-Some.is at c.in_ok-next.ensures in
    let taken = rw tried at c.modifier.ensures.gives in
    let forth = rw tried at c.modifier.ensures.forth in
    rw (c.in_ok-push.ensures.ok, map-append) (next-turn _ _ _ _ _ _ _ c.loop-list.invariant taken.0 forth taken.2)

pub returns : goal.returns
unfolding mods
returns c =
    let missing = rw c.in_default.is at c.in_ok-next.ensures in
    let nothing = rw missing at c.modifier.ensures.gives in
    let turn = c.loop-list.invariant in
    (last-turn _ _ _ _ _ turn nothing, turn.forth, turn.within)
