use Rattle.std.proofs.Common.{ℕ, ◌<◌, get_or}
use Rattle.rf_form.proofs.domains.bound_of.Given as goal

abbrev pub invariant-loop-v : goal.invariant-loop-v
invariant-loop-v l = record {
  within : (k : ℕ) → k < l.v-index → get_or l.row k 0 < l.bound;
  small : l.bound < 65537;
}
