-- Classes: what is read is a class, and each class is read.
use Rattle.std.proofs.Common.{◌≡◌, ◌≢◌, ℕ, List, [], ◌∷◌, ◌++◌, Some, None, refl, ap, sym, ◌∙◌, subst, codes, append_assoc}
use Rattle.std.specs.List.{flat_map, All}
use Rattle.std.proofs.lemmas.List.{append-nil}
use Rattle.std.proofs.lemmas.Option.{some_pair_parts, same_Some}
use Rattle.std.proofs.lemmas.List.Elements.{All-head, All-tail}
use Rattle.rf_engine.specs.Words.{is_blank, AreBlanks, IsName}
use Rattle.rf_engine.specs.Scan.{IsLongestFront}
use Rattle.rf_engine.specs.ClassFile.{Field, ClassFile, IsField, IsClassFile, field_bytes, class_bytes}
use Rattle.rf_engine.specs.ClassReader.{blanks_of, before_word, parted_name, field_of, BeginsWithFields, Head, head_of, End, end_before, end_of}
use Rattle.rf_engine.specs.Reading.{IsReading}
use Rattle.rf_engine.proofs.PieceLemmas.{chained, blanks_of-is, blanks_of-longest, before_word-append, before_word-other, IsBeforeWord, before_word-Some, blanks_end_name, parted_name-append, parted_name-Some}
use Rattle.rf_engine.proofs.FieldLemmas.{field_of-append}

-- no field begins where the class ends
no_field_at_end : (last_gap tail : List ℕ) → AreBlanks last_gap → field_of (last_gap ++ (codes "}" ++ tail)) ≡ None
unfolding field_of
no_field_at_end last_gap tail blanks =
    rw (before_word-other 105 (110 ∷ 116 ∷ []) last_gap 125 tail blanks refl refl)

-- a text begins with as many fields in one way only
same_fields : (fields others : List Field) (rest left : List ℕ) → flat_map field_bytes fields ++ rest ≡ flat_map field_bytes others ++ left → All IsField fields → All IsField others → field_of rest ≡ None → field_of left ≡ None → (fields ≡ others) × (rest ≡ left)
same_fields [] [] rest left same are others_are stops left_stops = (refl, same)
same_fields [] (other ∷ others) rest left same are others_are stops left_stops =
    let begins = field_of-append other (flat_map field_bytes others ++ left) (All-head IsField other others others_are) in
    let text : rest ≡ field_bytes other ++ (flat_map field_bytes others ++ left) = same ∙ append_assoc (field_bytes other) (flat_map field_bytes others) left in
    cc (ap field_of text)
same_fields (field ∷ fields) [] rest left same are others_are stops left_stops =
    let begins = field_of-append field (flat_map field_bytes fields ++ rest) (All-head IsField field fields are) in
    let text : left ≡ field_bytes field ++ (flat_map field_bytes fields ++ rest) = sym same ∙ append_assoc (field_bytes field) (flat_map field_bytes fields) rest in
    cc (ap field_of text)
same_fields (field ∷ fields) (other ∷ others) rest left same are others_are stops left_stops =
    let begins = field_of-append field (flat_map field_bytes fields ++ rest) (All-head IsField field fields are) in
    let other_begins = field_of-append other (flat_map field_bytes others ++ left) (All-head IsField other others others_are) in
    let text : field_bytes field ++ (flat_map field_bytes fields ++ rest) ≡ field_bytes other ++ (flat_map field_bytes others ++ left) =
    sym (append_assoc (field_bytes field) (flat_map field_bytes fields) rest) ∙ same ∙ append_assoc (field_bytes other) (flat_map field_bytes others) left in
    let heads = some_pair_parts field other (flat_map field_bytes fields ++ rest) (flat_map field_bytes others ++ left) (sym begins ∙ ap field_of text ∙ other_begins) in
    let fields_here : field ≡ other = heads.0 in
    let further = same_fields fields others rest left heads.1 (All-tail IsField field fields are) (All-tail IsField other others others_are) stops left_stops in
    let fields_same : fields ≡ others = further.0 in
    (cc, further.1)

-- a class up to its fields, whole
record IsHead (head : Head) : Type 0 where
  pub before : AreBlanks head.before
  pub gap : AreBlanks head.gap
  pub parted : head.gap ≢ []
  pub name : IsName head.name
  pub opening : AreBlanks head.opening

record IsHeadAt (text : List ℕ) (head : Head) (rest : List ℕ) : Type 0 where
  pub whole : text ≡ head.before ++ (codes "class" ++ (head.gap ++ (head.name ++ (head.opening ++ (codes "{" ++ rest)))))
  pub is_head : IsHead head

head_of-is : (text : List ℕ) (head : Head) (rest : List ℕ) → IsHeadAt text head rest → head_of text ≡ Some (head, rest)
unfolding head_of
head_of-is text head rest at =
    let behind_name = head.opening ++ (codes "{" ++ rest) in
    let class = before_word-append (codes "class") head.before (head.gap ++ (head.name ++ behind_name)) at.is_head.before refl in
    let name = parted_name-append head.gap head.name behind_name at.is_head.parted at.is_head.gap at.is_head.name (blanks_end_name head.opening (codes "{" ++ rest) at.is_head.opening refl) in
    let brace = before_word-append (codes "{") head.opening rest at.is_head.opening refl in
    rw (at.whole, class, name, brace)

head_whole : (head : Head) (text behind_class behind_name rest : List ℕ) → text ≡ head.before ++ (codes "class" ++ behind_class) → behind_class ≡ head.gap ++ (head.name ++ behind_name) → behind_name ≡ head.opening ++ (codes "{" ++ rest) → text ≡ head.before ++ (codes "class" ++ (head.gap ++ (head.name ++ (head.opening ++ (codes "{" ++ rest)))))
head_whole head text behind_class behind_name rest class name brace = rw (class, name, brace)

head_of-Some : (text : List ℕ) (cut : Head × List ℕ) → head_of text ≡ Some cut → IsHeadAt text cut.0 cut.1
unfolding head_of
head_of-Some text cut gives =
    let class = chained (before_word (codes "class") text) _ cut gives in
    let name = chained (parted_name class.value.1) _ cut class.next_gives in
    let brace = chained (before_word (codes "{") name.value.2) _ cut name.next_gives in
    let before = before_word-Some (codes "class") text class.value class.first_gives in
    let named = parted_name-Some class.value.1 name.value name.first_gives in
    let opening = before_word-Some (codes "{") name.value.2 brace.value brace.first_gives in
    let head : Head = record { before = class.value.0; gap = name.value.0; name = name.value.1; opening = brace.value.0 } in
    let same : (head, brace.value.1) ≡ cut = cc brace.next_gives in
    subst (λ (found : Head × List ℕ). IsHeadAt text found.0 found.1) same
    (record {
      whole = head_whole head text class.value.1 name.value.2 brace.value.1 before.whole named.whole opening.whole;
      is_head = record { before = before.blanks; gap = named.blanks; parted = named.parted; name = named.is_name; opening = opening.blanks };
    })

-- a class from behind its fields, whole
record IsEnd (text : List ℕ) (end : End) : Type 0 where
  pub whole : text ≡ end.last_gap ++ (codes "}" ++ end.tail)
  pub last_gap : AreBlanks end.last_gap
  pub tail : AreBlanks end.tail

end_of-is : (text : List ℕ) (end : End) → IsEnd text end → end_of text ≡ Some end
unfolding end_of
end_of-is text end is =
    let brace = before_word-append (codes "}") end.last_gap end.tail is.last_gap refl in
    let tail : blanks_of end.tail ≡ (end.tail, []) = blanks_of-is end.tail end.tail [] (record { whole = sym (append-nil end.tail); passes = is.tail; stops = tt }) in
    rw (is.whole, brace, tail)

end_here : (text tail rest : List ℕ) (found end : End) → IsBeforeWord (codes "}") text found.last_gap tail → IsLongestFront is_blank tail found.tail rest → end_before rest found ≡ Some end → IsEnd text end
end_here text tail [] found end brace blanks gives =
    let same : found ≡ end = cc in
    let ends : tail ≡ found.tail = blanks.whole ∙ append-nil found.tail in
    subst (λ (e : End). IsEnd text e) same (record {
      whole = brace.whole ∙ ap (λ t. found.last_gap ++ (codes "}" ++ t)) ends;
      last_gap = brace.blanks;
      tail = blanks.passes;
    })
end_here text tail (byte ∷ bytes) found end brace blanks gives = cc

end_of-Some : (text : List ℕ) (end : End) → end_of text ≡ Some end → IsEnd text end
unfolding end_of
end_of-Some text end gives =
    let brace = chained (before_word (codes "}") text) _ end gives in
    end_here text brace.value.1 (blanks_of brace.value.1).1 (record { last_gap = brace.value.0; tail = (blanks_of brace.value.1).0 }) end
    (before_word-Some (codes "}") text brace.value brace.first_gives) (blanks_of-longest brace.value.1) brace.next_gives

-- the parts of a class, and a class from its parts
abbrev head_in : ClassFile → Head
head_in file = record { before = file.before; gap = file.gap; name = file.name; opening = file.opening }

abbrev end_in : ClassFile → End
end_in file = record { last_gap = file.last_gap; tail = file.tail }

abbrev from_end_in : ClassFile → List ℕ
from_end_in file = file.last_gap ++ (codes "}" ++ file.tail)

abbrev pub class_of : Head → List Field → End → ClassFile
class_of head fields end = record {
  before = head.before;
  gap = head.gap;
  name = head.name;
  opening = head.opening;
  fields = fields;
  last_gap = end.last_gap;
  tail = end.tail;
}

-- each part of a class is found where it stands
head_found : (text : List ℕ) (file : ClassFile) → IsClassFile file → text ≡ class_bytes file → head_of text ≡ Some (head_in file, flat_map field_bytes file.fields ++ from_end_in file)
head_found text file is bytes = head_of-is text (head_in file) (flat_map field_bytes file.fields ++ from_end_in file) (record {
  whole = bytes;
  is_head = record { before = is.before; gap = is.gap; parted = is.parted; name = is.name; opening = is.opening };
})

fields_found : (file : ClassFile) (text : List ℕ) (fields : List Field) (rest : List ℕ) → IsClassFile file → text ≡ flat_map field_bytes file.fields ++ from_end_in file → BeginsWithFields text fields rest → (fields ≡ file.fields) × (rest ≡ from_end_in file)
fields_found file text fields rest is bytes begins =
    same_fields fields file.fields rest (from_end_in file) (sym begins.whole ∙ bytes) begins.are_fields is.fields begins.stops (no_field_at_end file.last_gap file.tail is.last_gap)

end_found : (file : ClassFile) (rest : List ℕ) → IsClassFile file → rest ≡ from_end_in file → end_of rest ≡ Some (end_in file)
end_found file rest is bytes = end_of-is rest (end_in file) (record { whole = bytes; last_gap = is.last_gap; tail = is.tail })

-- where the head, the fields or the end are not found there is no class
pub no_head : (text : List ℕ) → head_of text ≡ None → (file : ClassFile) → IsClassFile file → text ≡ class_bytes file → ⊥
no_head text none file is bytes = cc (head_found text file is bytes)

record ReadsAs (text : List ℕ) (head : Head) (fields : List Field) (rest : List ℕ) (file : ClassFile) : Type 0 where
  pub heads : head ≡ head_in file
  pub fields_same : fields ≡ file.fields
  pub end : end_of rest ≡ Some (end_in file)

reads_as : (text : List ℕ) (head : Head) (from_fields : List ℕ) (fields : List Field) (rest : List ℕ) → head_of text ≡ Some (head, from_fields) → BeginsWithFields from_fields fields rest → (file : ClassFile) → IsClassFile file → text ≡ class_bytes file → ReadsAs text head fields rest file
reads_as text head from_fields fields rest found begins file is bytes =
    let heads = some_pair_parts head (head_in file) from_fields (flat_map field_bytes file.fields ++ from_end_in file) (sym found ∙ head_found text file is bytes) in
    let bodies = fields_found file from_fields fields rest is heads.1 begins in
    record { heads = heads.0; fields_same = bodies.0; end = end_found file rest is bodies.1 }

pub no_end : (text : List ℕ) (head : Head) (from_fields : List ℕ) (fields : List Field) (rest : List ℕ) → head_of text ≡ Some (head, from_fields) → BeginsWithFields from_fields fields rest → end_of rest ≡ None → (file : ClassFile) → IsClassFile file → text ≡ class_bytes file → ⊥
no_end text head from_fields fields rest found begins none file is bytes =
    let reads = reads_as text head from_fields fields rest found begins file is bytes in
    cc reads.end

class_of_parts : (head : Head) (fields : List Field) (end : End) (file : ClassFile) → head ≡ head_in file → fields ≡ file.fields → end ≡ end_in file → file ≡ class_of head fields end
class_of_parts head fields end file heads fields_same ends = rw (heads, fields_same, ends)

class_whole : (head : Head) (fields : List Field) (end : End) (text from_fields rest : List ℕ) → text ≡ head.before ++ (codes "class" ++ (head.gap ++ (head.name ++ (head.opening ++ (codes "{" ++ from_fields))))) → from_fields ≡ flat_map field_bytes fields ++ rest → rest ≡ end.last_gap ++ (codes "}" ++ end.tail) → text ≡ class_bytes (class_of head fields end)
class_whole head fields end text from_fields rest first body last = rw (first, body, last)

-- and where they are found the text is the class that they make, and no other one
pub class_found : (text : List ℕ) (head : Head) (from_fields : List ℕ) (fields : List Field) (rest : List ℕ) (end : End) → head_of text ≡ Some (head, from_fields) → BeginsWithFields from_fields fields rest → end_of rest ≡ Some end → IsReading text (class_of head fields end)
class_found text head from_fields fields rest end found begins ends =
    let first = head_of-Some text (head, from_fields) found in
    let last = end_of-Some rest end ends in
    record {
      class_file = record {
        before = first.is_head.before;
        gap = first.is_head.gap;
        parted = first.is_head.parted;
        name = first.is_head.name;
        opening = first.is_head.opening;
        fields = begins.are_fields;
        last_gap = last.last_gap;
        tail = last.tail;
      };
      bytes_are = class_whole head fields end text from_fields rest first.whole begins.whole last.whole;
      only = λ other is bytes.
          let reads = reads_as text head from_fields fields rest found begins other is bytes in
          class_of_parts head fields end other reads.heads reads.fields_same (same_Some end (end_in other) (sym ends ∙ reads.end));
    }
