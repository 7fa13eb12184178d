-- The nodes read so far, one more, and none more.
use Rattle.std.proofs.Common.{◌≡◌, ◌≢◌, ℕ, zero, suc, ◌+◌, ◌-◌, ◌<◌, ◌≤◌, ◌++◌, List, [], ◌∷◌, length, map, refl, sym, ap, ◌∙◌, subst, arith, append_assoc, length-append}
use Rattle.std.specs.Prelude.{codes, flat_map, Result, Ok, Err}
use Rattle.std.specs.Fmt.{decimal}
use Rattle.std.proofs.lemmas.List.{append-nil, length-map, map-append}
use Rattle.std.proofs.lemmas.Grind.{flat_map-append}
use Rattle.rf_refute.specs.Shown.{shown}
use Rattle.rf_refute.specs.Trees as trees
use Rattle.rf_refute.specs.declared.nodes.Node.{Node}
use Rattle.rf_proof.specs.Trees.{children, Leaves, IsWhole}
use Rattle.rf_proof.specs.Texts.{spaced, line_of, lines_of, line_end, version_line, HasLine, HaveLines, IsText}
use Rattle.rf_proof.specs.Lines.{BeginsNode, BeginsNoNode, Breaks, BreaksBehind, IsBadLine, node}

have_more : (ns : List trees.Node) (n : trees.Node) → HaveLines ns → HasLine n → HaveLines (ns ++ n ∷ [])
have_more [] n all one = (one, tt)
have_more (m ∷ ns) n all one = (all.0, have_more ns n all.1 one)

leaves_more : (k : ℕ) (ns : List trees.Node) (n : trees.Node) (left : ℕ) → Leaves k ns (suc left) → Leaves k (ns ++ n ∷ []) (children n + left)
leaves_more zero [] n left h = absurd (omega (arith, h))
leaves_more (suc k) [] n left h = let e : k ≡ left = omega (arith, h) in ap (λ (t : ℕ). children n + t) e
leaves_more zero (m ∷ ns) n left h = absurd h
leaves_more (suc k) (m ∷ ns) n left h = leaves_more (children m + k) ns n left h

lines_more : (ns : List trees.Node) (n : trees.Node) (left rest : List ℕ) → left ≡ line_of n ++ rest → lines_of ns ++ left ≡ lines_of (ns ++ n ∷ []) ++ rest
lines_more ns n left rest e = ap (λ (l : List ℕ). lines_of ns ++ l) e ∙ (sym (append_assoc (lines_of ns) (line_of n) rest)
    ∙ ap (λ (l : List ℕ). l ++ rest) (sym (flat_map-append line_of ns (n ∷ []) ∙ ap (λ (l : List ℕ). lines_of ns ++ l) (append-nil (line_of n)))))

places_long : (vs : List ℕ) → length vs ≤ length (flat_map spaced vs)
places_long [] = omega arith
places_long (v ∷ vs) = omega (arith, places_long vs, length-append (spaced v) (flat_map spaced vs))

-- a line is longer than the node has children
pub line_long : (n : trees.Node) → children n < length (line_of n)
line_long (trees.Remove x v c) = omega arith
line_long (trees.Split x vs) = omega (arith, places_long vs, length-append (spaced x) (flat_map spaced vs ++ line_end), length-append (flat_map spaced vs) line_end)
line_long (trees.Fail c) = omega arith

-- behind these nodes so many trees are to come, and this is left of the text
pub record ReadTo (text : List ℕ) (nodes : List Node) (wanted : ℕ) (left : List ℕ) : Type 0 where
  pub lines : HaveLines (map shown nodes)
  pub leaves : Leaves 1 (map shown nodes) wanted
  pub text_is : text ≡ lines_of (map shown nodes) ++ left
  pub room : wanted + length left ≤ length text + 1

pub read_none : (text : List ℕ) → ReadTo text [] 1 text
read_none text = record { lines = tt; leaves = refl; text_is = refl; room = omega arith }

pub read_more : (text : List ℕ) (nodes : List Node) (wanted : ℕ) (left : List ℕ) (n : Node) (rest : List ℕ) (now : ℕ) → ReadTo text nodes wanted left → 0 < wanted
    → BeginsNode left (shown n) rest → now ≡ (wanted - 1) + children (shown n) → ReadTo text (nodes ++ n ∷ []) now rest
read_more text nodes wanted left n rest now h some has e =
    let shape = sym (map-append shown nodes (n ∷ [])) in
    let one : wanted ≡ suc (wanted - 1) = omega arith in
    let count : children (shown n) + (wanted - 1) ≡ now = omega arith in
    let long : length left ≡ length (line_of (shown n)) + length rest = ap (λ (l : List ℕ). length l) has.text_is ∙ length-append (line_of (shown n)) rest in
    record {
      lines = subst (λ (l : List trees.Node). HaveLines l) shape (have_more (map shown nodes) (shown n) h.lines has.line);
      leaves = subst (λ (l : List trees.Node). Leaves 1 l now) shape (subst (λ (k : ℕ). Leaves 1 (map shown nodes ++ shown n ∷ []) k) count
          (leaves_more 1 (map shown nodes) (shown n) (wanted - 1) (subst (λ (k : ℕ). Leaves 1 (map shown nodes) k) one h.leaves)));
      text_is = h.text_is ∙ (lines_more (map shown nodes) (shown n) left rest has.text_is ∙ ap (λ (l : List trees.Node). lines_of l ++ rest) shape);
      room = omega (arith, h.room, long, line_long (shown n));
    }

pub line_shorter : (left : List ℕ) (n : trees.Node) (rest : List ℕ) → BeginsNode left n rest → length rest < length left
line_shorter left n rest has =
    let long : length left ≡ length (line_of n) + length rest = ap (λ (l : List ℕ). length l) has.text_is ∙ length-append (line_of n) rest in
    omega (arith, long, line_long n)

pub wanted_fits : (text : List ℕ) (nodes : List Node) (wanted : ℕ) (left : List ℕ) (n : Node) (rest : List ℕ) → ReadTo text nodes wanted left → BeginsNode left (shown n) rest
    → (wanted - 1) + children (shown n) ≤ length text
wanted_fits text nodes wanted left n rest h has =
    let long : length left ≡ length (line_of (shown n)) + length rest = ap (λ (l : List ℕ). length l) has.text_is ∙ length-append (line_of (shown n)) rest in
    omega (arith, h.room, long, line_long (shown n))

lines_long : (ns : List trees.Node) → length ns ≤ length (lines_of ns)
lines_long [] = omega arith
lines_long (n ∷ ns) = omega (arith, line_long n, lines_long ns, length-append (line_of n) (lines_of ns))

pub nodes_few : (text : List ℕ) (nodes : List Node) (wanted : ℕ) (left : List ℕ) → ReadTo text nodes wanted left → length nodes ≤ length text
nodes_few text nodes wanted left h =
    let all : length text ≡ length (lines_of (map shown nodes)) + length left = ap (λ (l : List ℕ). length l) h.text_is ∙ length-append (lines_of (map shown nodes)) left in
    omega (arith, lines_long (map shown nodes), length-map nodes shown, all)

bad_behind : (text : List ℕ) (nodes : List Node) (wanted : ℕ) (left : List ℕ) → ReadTo text nodes wanted left → Breaks wanted left
    → IsBadLine (version_line ++ text) (length nodes + 2)
bad_behind text nodes wanted left h b = node (map shown nodes)
    (record { lines = h.lines; left = wanted; rest = left; leaves = h.leaves; text_is = ap (λ (l : List ℕ). version_line ++ l) h.text_is; breaks = b })
    (ap (λ (k : ℕ). k + 2) (sym (length-map nodes shown)))

pub node_missing : (text : List ℕ) (nodes : List Node) (wanted : ℕ) (left : List ℕ) → ReadTo text nodes wanted left → 0 < wanted → BeginsNoNode left
    → IsBadLine (version_line ++ text) (length nodes + 2)
node_missing text nodes zero left h some none = absurd (omega arith)
node_missing text nodes (suc k) left h some none = bad_behind text nodes (suc k) left h none

pub node_left_over : (text : List ℕ) (nodes : List Node) (wanted : ℕ) (left : List ℕ) → ReadTo text nodes wanted left → wanted ≤ 0 → left ≢ []
    → IsBadLine (version_line ++ text) (length nodes + 2)
node_left_over text nodes zero left h none some = bad_behind text nodes zero left h some
node_left_over text nodes (suc k) left h none some = absurd (omega arith)

pub whole_read : (text : List ℕ) (nodes : List Node) (wanted : ℕ) (left : List ℕ) → ReadTo text nodes wanted left → wanted ≤ 0 → left ≡ []
    → IsText (map shown nodes) (version_line ++ text)
whole_read text nodes wanted left h none over =
    let e : wanted ≡ 0 = omega arith in
    record {
      lines = h.lines;
      whole = subst (λ (k : ℕ). Leaves 1 (map shown nodes) k) e h.leaves;
      text_is = ap (λ (l : List ℕ). version_line ++ l) (h.text_is ∙ (ap (λ (l : List ℕ). lines_of (map shown nodes) ++ l) over ∙ append-nil (lines_of (map shown nodes))));
    }
