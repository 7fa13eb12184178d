-- What is put into an index, row by row.
use Rattle.std.proofs.Common.{◌≡◌, ℕ, suc, ◌+◌, ◌<◌, ◌≤◌, Bool, true, false, ◌&&◌, ◌||◌, cond, nat_eq, List, [], ◌∷◌, ◌++◌, find, length, get_or, position, take, Option, Some, None, is_some, refl, sym, ap, ap₂, ◌∙◌, inl, inr, arith, add-zero}
use Rattle.std.specs.List.{list_any, position_from}
use Rattle.std.specs.Option.{option_copied}
use Rattle.std.proofs.lemmas.Bool.{true≢false, and_parts, cases_Bool, eqb-true, eq-eqb, ne_eqb}
use Rattle.std.proofs.lemmas.Iterator.Adapters.{position_from-zero}
use Rattle.std.proofs.lemmas.List.{length-take-le, take_more}
use Rattle.std.proofs.lemmas.List.Folds.{list_any-append}
use Rattle.indexmap.specs.IndexMap.{IndexMap, get, IsEmpty}
use Rattle.std.specs.Map.{lookup}
use Rattle.rf_form.specs.declared.forms.Term.TheVariants.{Var, Const}
use Rattle.rf_facts.specs.declared.properties.PropRow.{PropRow}
use Rattle.rf_facts.specs.declared.properties.PropTable.{PropTable}
use Rattle.rf_inst.specs.Values.{Value, Missing, Known, constant, is_of, is_slot, kept, now_of, old_of, variable}
use Rattle.rf_make.specs.declared.indexes.Entry.{Entry}
use Rattle.rf_make.specs.declared.indexes.Index.{Index}
use Rattle.rf_make.specs.Indexes.{IsIndex, Puts, PutsRow, PutsRows, is_pair, or_else, outside, own, seen, under, value_now, value_old}

same_numbers : (a b : ℕ) → nat_eq a b ≡ nat_eq b a
same_numbers a b = elim (cases_Bool (nat_eq a b)) [
  | inl h ↦ h ∙ sym (eq-eqb b a (sym (eqb-true a b h)))
  | inr h ↦ elim (cases_Bool (nat_eq b a)) [
    | inl g ↦ absurd (true≢false (sym (eq-eqb a b (sym (eqb-true b a g))) ∙ h))
    | inr g ↦ h ∙ sym g
  ]
]

pub or_none : (o : Option Entry) → o ≡ or_else o None
or_none None = refl
or_none (Some e) = refl

pub or_assoc : (a b c : Option Entry) → or_else (or_else a b) c ≡ or_else a (or_else b c)
or_assoc None b c = refl
or_assoc (Some e) b c = refl

there_is : (t : Bool) (o : Option Entry) (e : Entry) → (t ≡ true → is_some o ≡ true) → o ≡ or_else o (cond t (Some e) None)
there_is true None e some = absurd (true≢false (sym (some refl)))
there_is true (Some x) e some = refl
there_is false None e some = refl
there_is false (Some x) e some = refl

new_is : (t : Bool) (o n : Option Entry) (e : Entry) → (t ≡ true → is_some o ≡ false) → n ≡ cond t (Some e) o → n ≡ or_else o (cond t (Some e) None)
new_is true None n e none is = is
new_is true (Some x) n e none is = absurd (true≢false (none refl))
new_is false None n e none is = is
new_is false (Some x) n e none is = is

module _ {S : Type 0} (old : IndexMap (ℕ × ℕ) Entry S) (key : ℕ × ℕ) (entry : Entry) where
  known_as : (some : Bool) → is_some (get is_pair old key) ≡ some → (a b : ℕ) → is_pair key (a, b) ≡ true → is_some (under old a b) ≡ some
  known_as some is a b same = let parts = and_parts (nat_eq key.0 a) (nat_eq key.1 b) same in
      sym (ap₂ (λ x y. is_some (under old x y)) (eqb-true key.0 a parts.0) (eqb-true key.1 b parts.1)) ∙ is

  turned : (a b : ℕ) → is_pair (a, b) key ≡ is_pair key (a, b)
  turned a b = ap₂ (λ x y. x && y) (same_numbers a key.0) (same_numbers b key.1)

  pub put_there : is_some (get is_pair old key) ≡ true → Puts old old (λ a b. nat_eq key.0 a && nat_eq key.1 b) entry
  put_there some a b = there_is (is_pair key (a, b)) (under old a b) entry (known_as true some a b)

  pub put_new : (new : IndexMap (ℕ × ℕ) Entry S) → is_some (get is_pair old key) ≡ false → ((q : ℕ × ℕ) → get is_pair new q ≡ cond (is_pair key q) (Some entry) (get is_pair old q))
      → Puts old new (λ a b. nat_eq key.0 a && nat_eq key.1 b) entry
  put_new new none updated a b = new_is (is_pair key (a, b)) (under old a b) (under new a b) entry (known_as false none a b) (updated (a, b))

put_twice : (old : Option Entry) (s t : Bool) (e : Entry) → or_else (or_else old (cond s (Some e) None)) (cond t (Some e) None) ≡ or_else old (cond (s || t) (Some e) None)
put_twice (Some x) s t e = refl
put_twice None true t e = refl
put_twice None false t e = refl

both_put : (old mid new : Option Entry) (s t u : Bool) (e : Entry) → mid ≡ or_else old (cond s (Some e) None) → new ≡ or_else mid (cond t (Some e) None) → u ≡ (s || t)
    → new ≡ or_else old (cond u (Some e) None)
both_put old mid new s t u e one other is = other ∙ (ap (λ (m : Option Entry). or_else m (cond t (Some e) None)) one
    ∙ (put_twice old s t e ∙ ap (λ (u : Bool). or_else old (cond u (Some e) None)) (sym is)))

either : (f s t : Bool) → (f && (s || t)) ≡ ((f && s) || (f && t))
either true s t = refl
either false s t = refl

either_first : (s t g : Bool) → ((s || t) && g) ≡ ((s && g) || (t && g))
either_first true true true = refl
either_first true true false = refl
either_first true false true = refl
either_first true false false = refl
either_first false t g = refl

no_more : (b : Bool) → (b || false) ≡ b
no_more true = refl
no_more false = refl

any_more : (n : ℕ) (xs : List ℕ) (i : ℕ) → i < length xs → list_any (nat_eq n) (take (i + 1) xs) ≡ (list_any (nat_eq n) (take i xs) || nat_eq (get_or xs i 0) n)
any_more n xs i lt = ap (list_any (nat_eq n)) (take_more xs i 0 lt) ∙ (list_any-append (nat_eq n) (take i xs) (get_or xs i 0 ∷ [])
    ∙ ap (λ (b : Bool). list_any (nat_eq n) (take i xs) || b) (no_more (nat_eq n (get_or xs i 0)) ∙ same_numbers n (get_or xs i 0)))

module _ {S : Type 0} (old mid new : IndexMap (ℕ × ℕ) Entry S) (elems : List ℕ) (i x : ℕ) (entry : Entry) where
  pub each_more : (first : ℕ) → i < length elems → x ≡ get_or elems i 0 → Puts old mid (λ a b. nat_eq first a && list_any (nat_eq b) (take i elems)) entry
      → Puts mid new (λ a b. nat_eq first a && nat_eq x b) entry → Puts old new (λ a b. nat_eq first a && list_any (nat_eq b) (take (i + 1) elems)) entry
  each_more first lt is one other a b = both_put (under old a b) (under mid a b) (under new a b) (nat_eq first a && list_any (nat_eq b) (take i elems)) (nat_eq first a && nat_eq x b)
      (nat_eq first a && list_any (nat_eq b) (take (i + 1) elems)) entry (one a b) (other a b)
      (ap (λ (t : Bool). nat_eq first a && t) (any_more b elems i lt ∙ ap (λ (y : ℕ). list_any (nat_eq b) (take i elems) || nat_eq y b) (sym is))
      ∙ either (nat_eq first a) (list_any (nat_eq b) (take i elems)) (nat_eq x b))

  pub pairs_more : i < length elems → x ≡ get_or elems i 0 → Puts old mid (λ a b. list_any (nat_eq a) (take i elems) && list_any (nat_eq b) elems) entry
      → Puts mid new (λ a b. nat_eq x a && list_any (nat_eq b) elems) entry → Puts old new (λ a b. list_any (nat_eq a) (take (i + 1) elems) && list_any (nat_eq b) elems) entry
  pairs_more lt is one other a b = both_put (under old a b) (under mid a b) (under new a b) (list_any (nat_eq a) (take i elems) && list_any (nat_eq b) elems) (nat_eq x a && list_any (nat_eq b) elems)
      (list_any (nat_eq a) (take (i + 1) elems) && list_any (nat_eq b) elems) entry (one a b) (other a b)
      (ap (λ (t : Bool). t && list_any (nat_eq b) elems) (any_more a elems i lt ∙ ap (λ (y : ℕ). list_any (nat_eq a) (take i elems) || nat_eq y a) (sym is))
      ∙ either_first (list_any (nat_eq a) (take i elems)) (nat_eq x a) (list_any (nat_eq b) elems))

-- one row more
module _ (gives : ℕ → PropRow → Entry) (fits : PropRow → Bool) where
  same_place : (k : ℕ) (rows : List PropRow) → k + 1 + length rows ≡ k + suc (length rows)
  same_place k rows = omega arith

  seen_push : (k : ℕ) (rows : List PropRow) (row : PropRow) → seen gives fits k (rows ++ row ∷ []) ≡ or_else (seen gives fits k rows) (cond (fits row) (Some (gives (k + length rows) row)) None)
  seen_push k [] row = ap (λ (n : ℕ). cond (fits row) (Some (gives n row)) None) (sym (add-zero k))
  seen_push k (r ∷ rows) row = by (fits r) (seen_push (k + 1) rows row ∙ ap (λ (n : ℕ). or_else (seen gives fits (k + 1) rows) (cond (fits row) (Some (gives n row)) None)) (same_place k rows))
    where
      by : (b : Bool) → seen gives fits (k + 1) (rows ++ row ∷ []) ≡ or_else (seen gives fits (k + 1) rows) (cond (fits row) (Some (gives (k + suc (length rows)) row)) None)
          → cond b (Some (gives k r)) (seen gives fits (k + 1) (rows ++ row ∷ [])) ≡ or_else (cond b (Some (gives k r)) (seen gives fits (k + 1) rows)) (cond (fits row) (Some (gives (k + suc (length rows)) row)) None)
      by true h = refl
      by false h = h

  from_zero : (n i : ℕ) → n ≡ i → 0 + n ≡ i
  from_zero n i is = omega arith

  within : (i n : ℕ) → i < n → i ≤ n
  within i n lt = omega arith

  length_front : (i : ℕ) (rows : List PropRow) → i < length rows → 0 + length (take i rows) ≡ i
  length_front i rows lt = from_zero (length (take i rows)) i (length-take-le i rows (within i (length rows) lt))

  pub seen_more : (i : ℕ) (rows : List PropRow) (row : PropRow) (old mid new : Option Entry) → i < length rows → row ≡ get_or rows i row
      → mid ≡ or_else old (seen gives fits 0 (take i rows)) → new ≡ or_else mid (cond (fits row) (Some (gives i row)) None) → new ≡ or_else old (seen gives fits 0 (take (i + 1) rows))
  seen_more i rows row old mid new lt is one other = other ∙ (ap (λ (m : Option Entry). or_else m (cond (fits row) (Some (gives i row)) None)) one
      ∙ (or_assoc old (seen gives fits 0 (take i rows)) (cond (fits row) (Some (gives i row)) None)
      ∙ ap (or_else old) (ap (λ (n : ℕ). or_else (seen gives fits 0 (take i rows)) (cond (fits row) (Some (gives n row)) None)) (sym (length_front i rows lt))
      ∙ (sym (seen_push 0 (take i rows) row)
      ∙ ap (seen gives fits 0) (ap (λ (r : PropRow). take i rows ++ r ∷ []) is ∙ sym (take_more rows i row lt))))))

pub rows_more : (old mid new : Index) (gives : ℕ → PropRow → Entry) (rows : List PropRow) (row : PropRow) (i : ℕ) (entry : Entry) → i < length rows → row ≡ get_or rows i row
    → entry ≡ gives i row → PutsRows old gives (take i rows) mid → PutsRow mid row entry new → PutsRows old gives (take (i + 1) rows) new
rows_more old mid new gives rows row i entry lt is given one other = record {
  values = λ prop n. seen_more gives (is_of prop n) i rows row (under old.values prop n) (under mid.values prop n) (under new.values prop n) lt is (one.values prop n)
      (other.values prop n ∙ ap (λ (e : Entry). or_else (under mid.values prop n) (cond (is_of prop n row) (Some e) None)) given);
  slots = λ unit type. seen_more gives (is_slot unit type) i rows row (under old.slots unit type) (under mid.slots unit type) (under new.slots unit type) lt is (one.slots unit type)
      (other.slots unit type ∙ ap (λ (e : Entry). or_else (under mid.slots unit type) (cond (is_slot unit type row) (Some e) None)) given);
}

pub no_rows : (old : Index) (gives : ℕ → PropRow → Entry) → PutsRows old gives [] old
no_rows old gives = record { values = λ prop n. or_none (under old.values prop n); slots = λ unit type. or_none (under old.slots unit type) }

-- what the rows of a table give is what the definitions say
var_or : Value → Option ℕ → Value
var_or other None = other
var_or other (Some x) = Known (Var x)

old_or : Value → Option PropRow → Value
old_or other None = other
old_or other (Some row) = Known (Const row.old)

module _ (fits : PropRow → Bool) where
  seen_now : (k : ℕ) (rows : List PropRow) (rest : Option Entry) → value_now (or_else (seen own fits k rows) rest) ≡ var_or (value_now rest) (position_from fits k rows)
  unfolding var_or
  seen_now k [] rest = refl
  seen_now k (r ∷ rows) rest = by (fits r) (seen_now (k + 1) rows rest)
    where
      by : (b : Bool) → value_now (or_else (seen own fits (k + 1) rows) rest) ≡ var_or (value_now rest) (position_from fits (k + 1) rows)
          → value_now (or_else (cond b (Some (own k r)) (seen own fits (k + 1) rows)) rest) ≡ var_or (value_now rest) (cond b (Some k) (position_from fits (k + 1) rows))
      by true h = refl
      by false h = h

  seen_old : (k : ℕ) (rows : List PropRow) (rest : Option Entry) → value_old (or_else (seen own fits k rows) rest) ≡ old_or (value_old rest) (find fits rows)
  unfolding old_or
  seen_old k [] rest = refl
  seen_old k (r ∷ rows) rest = by (fits r) (seen_old (k + 1) rows rest)
    where
      by : (b : Bool) → value_old (or_else (seen own fits (k + 1) rows) rest) ≡ old_or (value_old rest) (find fits rows)
          → value_old (or_else (cond b (Some (own k r)) (seen own fits (k + 1) rows)) rest) ≡ old_or (value_old rest) (cond b (Some r) (find fits rows))
      by true h = refl
      by false h = h

  outer_now : (k : ℕ) (rows : List PropRow) → value_now (seen (λ _ row. outside row) fits k rows) ≡ constant (find fits rows)
  outer_now k [] = refl
  outer_now k (r ∷ rows) = by (fits r) (outer_now (k + 1) rows)
    where
      by : (b : Bool) → value_now (seen (λ _ row. outside row) fits (k + 1) rows) ≡ constant (find fits rows)
          → value_now (cond b (Some (outside r)) (seen (λ _ row. outside row) fits (k + 1) rows)) ≡ constant (cond b (Some r) (find fits rows))
      by true h = refl
      by false h = h

  outer_old : (k : ℕ) (rows : List PropRow) → value_old (seen (λ _ row. outside row) fits k rows) ≡ constant (find fits rows)
  outer_old k [] = refl
  outer_old k (r ∷ rows) = by (fits r) (outer_old (k + 1) rows)
    where
      by : (b : Bool) → value_old (seen (λ _ row. outside row) fits (k + 1) rows) ≡ constant (find fits rows)
          → value_old (cond b (Some (outside r)) (seen (λ _ row. outside row) fits (k + 1) rows)) ≡ constant (cond b (Some r) (find fits rows))
      by true h = refl
      by false h = h

  var_is : (table : PropTable) (o : Option ℕ) → var_or (constant (find fits table.fixed)) o ≡ variable table fits o
  unfolding var_or
  var_is table None = refl
  var_is table (Some x) = refl

  old_is : (table : PropTable) (o : Option PropRow) → old_or (constant (find fits table.fixed)) o ≡ kept table fits o
  unfolding old_or
  old_is table None = refl
  old_is table (Some row) = refl

  table_now : (table : PropTable) (own_map all : Option Entry) → own_map ≡ or_else None (seen own fits 0 table.rows) → all ≡ or_else own_map (seen (λ _ row. outside row) fits 0 table.fixed)
      → value_now all ≡ now_of table fits
  table_now table own_map all one other = ap value_now (other ∙ ap (λ (o : Option Entry). or_else o (seen (λ _ row. outside row) fits 0 table.fixed)) one)
      ∙ (seen_now 0 table.rows (seen (λ _ row. outside row) fits 0 table.fixed)
      ∙ (ap₂ var_or (outer_now 0 table.fixed) (sym (position_from-zero fits table.rows)) ∙ var_is table (position fits table.rows)))

  table_old : (table : PropTable) (own_map all : Option Entry) → own_map ≡ or_else None (seen own fits 0 table.rows) → all ≡ or_else own_map (seen (λ _ row. outside row) fits 0 table.fixed)
      → value_old all ≡ old_of table fits
  table_old table own_map all one other = ap value_old (other ∙ ap (λ (o : Option Entry). or_else o (seen (λ _ row. outside row) fits 0 table.fixed)) one)
      ∙ (seen_old 0 table.rows (seen (λ _ row. outside row) fits 0 table.fixed)
      ∙ (ap (λ (v : Value). old_or v (find fits table.rows)) (outer_old 0 table.fixed) ∙ old_is table (find fits table.rows)))

pub none_under : {S : Type 0} (map : IndexMap (ℕ × ℕ) Entry S) → IsEmpty map → (a b : ℕ) → under map a b ≡ None
none_under map empty a b = ap (lookup (is_pair (a, b))) empty

pub indexed : (table : PropTable) (none own_rows all : Index) → ((a b : ℕ) → under none.values a b ≡ None) → ((a b : ℕ) → under none.slots a b ≡ None)
    → PutsRows none own table.rows own_rows → PutsRows own_rows (λ _ row. outside row) table.fixed all → IsIndex table all
indexed table none own_rows all no_values no_slots one other = record {
  now = λ prop n. table_now (is_of prop n) table (under own_rows.values prop n) (under all.values prop n) (first_values prop n) (other.values prop n);
  old = λ prop n. table_old (is_of prop n) table (under own_rows.values prop n) (under all.values prop n) (first_values prop n) (other.values prop n);
  slots = λ unit type. table_now (is_slot unit type) table (under own_rows.slots unit type) (under all.slots unit type)
      (one.slots unit type ∙ ap (λ (o : Option Entry). or_else o (seen own (is_slot unit type) 0 table.rows)) (no_slots unit type)) (other.slots unit type);
}
  where
    first_values : (prop n : ℕ) → under own_rows.values prop n ≡ or_else None (seen own (is_of prop n) 0 table.rows)
    first_values prop n = one.values prop n ∙ ap (λ (o : Option Entry). or_else o (seen own (is_of prop n) 0 table.rows)) (no_values prop n)
