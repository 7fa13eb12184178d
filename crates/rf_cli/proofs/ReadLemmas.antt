-- What a command has read, put together.
use Rattle.std.proofs.Common.{◌≡◌, ℕ, Bool, true, false, List, [], ◌∷◌, Option, Some, None, filter, IfSome, IsSome, is_some, not, refl, sym, ap, subst, ◌∙◌, true≢false}
use Rattle.std.specs.Str.{bytes_eq}
use Rattle.std.proofs.lemmas.Slice.Eq.{bytes_eq-Decides}
use Rattle.rf_world.specs.World.{Files}
use Rattle.rf_jtree.specs.JavaPath.{is_java_path}
use Rattle.rf_engine.specs.declared.first_form.FirstPath.{FirstPath}
use Rattle.rf_engine.specs.declared.first_form.FirstPath.TheVariants.{NotYet}
use Rattle.rf_engine.specs.FirstForm.{IsForm, IsAnswer}
use Rattle.rf_cli.specs.Command.{Apply, no_library}
use Rattle.rf_cli.specs.Listing.{IsOrdered}
use Rattle.rf_cli.specs.Inputs.{IsOnlyJava, IsRight}
use Rattle.rf_cli.proofs.JavaFileLemmas.{lists_only, only_listed}

first_same : {X : Type 0} {x y : X} → x ∷ [] ≡ y ∷ [] → x ≡ y
first_same e = cc

value_same : {X : Type 0} {x y : X} → Some x ≡ Some y → x ≡ y
value_same e = cc

-- what was read decides
module _ (command : Apply) (path file request : List ℕ) (paths : List (List ℕ)) (answer : FirstPath) where
  right : (files : Files) → command.lib ≡ no_library → files [] command.request ≡ Some request → IsOnlyJava command.src files path → files command.src path ≡ Some file → IsAnswer path file request answer → IsRight command files path answer
  right files alone read only found decided = record {
    of_form = λ at form holds.
        let same_path : path ≡ at = holds.only_file.only path (ap is_some found) only.is_java in
        let same_request : holds.request ≡ request = value_same (sym holds.request_is ∙ read) in
        let same_file : holds.file ≡ file = value_same (sym holds.file_is ∙ ap (λ p. files command.src p) (sym same_path) ∙ found) in
        let its_request : IsForm form at holds.file request = subst (λ r. IsForm form at holds.file r) same_request holds.is_form in
        let its_file : IsForm form at file request = subst (λ f. IsForm form at f request) same_file its_request in
        (same_path, decided.of_form form (subst (λ p. IsForm form p file request) (sym same_path) its_file));
    some_form = λ some. let it = decided.some_form some in (it.0, record { no_library = alone; request = request; request_is = read; only_file = only; file = file; file_is = found; is_form = it.1 });
  }

  right_among : (told listed read : Option Files) → listed ≡ told → read ≡ listed
      → command.lib ≡ no_library
      → IfSome told (λ files. files [] command.request ≡ Some request)
      → IfSome listed (λ files. IsOrdered command.src files paths)
      → filter is_java_path paths ≡ path ∷ []
      → IfSome read (λ files. files command.src path ≡ Some file)
      → IsAnswer path file request answer
      → IfSome told (λ files. IsRight command files path answer)
  right_among None listed read e f alone g h one i decided = tt
  right_among (Some files) listed read e f alone g h one i decided =
      let h' : IsOrdered command.src files paths = subst (λ o. IfSome o (λ files. IsOrdered command.src files paths)) e h in
      let i' : files command.src path ≡ Some file = subst (λ o. IfSome o (λ files. files command.src path ≡ Some file)) (f ∙ e) i in
      right files alone g (only_listed command.src files paths h'.listing path one).0 i' decided

was_true : (b : Bool) → not b ≡ false → b ≡ true
was_true true e = refl
was_true false e = absurd (true≢false e)

-- the same of the slices that the program passes on: each is the text that was read
pub right_told : (command : Apply) (path file request empty dash : List ℕ) (paths slices : List (List ℕ)) (answer : FirstPath) (path_slice file_slice request_slice found : List ℕ)
    (told listed read : Option Files) (differs : Bool)
    → listed ≡ told → read ≡ listed
    → differs ≡ not (bytes_eq command.lib dash) → differs ≡ false → dash ≡ no_library
    → empty ≡ []
    → IfSome told (λ files. files empty command.request ≡ Some request)
    → IfSome listed (λ files. IsOrdered command.src files paths)
    → slices ≡ paths → filter is_java_path slices ≡ found ∷ [] → path ≡ found
    → IfSome read (λ files. files command.src path_slice ≡ Some file)
    → path_slice ≡ path → file_slice ≡ file → request_slice ≡ request
    → IsAnswer path_slice file_slice request_slice answer
    → IfSome told (λ files. IsRight command files path answer)
right_told command path file request empty dash paths slices answer path_slice file_slice request_slice found told listed read differs e f d d' is_dash none g h s one at i p q r decided =
    let alone : command.lib ≡ no_library = (bytes_eq-Decides command.lib dash).0 (was_true (bytes_eq command.lib dash) (sym d ∙ d')) ∙ is_dash in
    let request_read : IfSome told (λ files. files [] command.request ≡ Some request) = subst (λ root. IfSome told (λ files. files root command.request ≡ Some request)) none g in
    let one' : filter is_java_path paths ≡ path ∷ [] = ap (filter is_java_path) (sym s) ∙ one ∙ ap (λ x. x ∷ []) (sym at) in
    let file_read : IfSome read (λ files. files command.src path ≡ Some file) = subst (λ at. IfSome read (λ files. files command.src at ≡ Some file)) p i in
    let its_request : IsAnswer path_slice file_slice request answer = subst (λ x. IsAnswer path_slice file_slice x answer) r decided in
    let its_file : IsAnswer path_slice file request answer = subst (λ x. IsAnswer path_slice x request answer) q its_request in
    right_among command path file request paths answer told listed read e f alone request_read h one' file_read (subst (λ x. IsAnswer x file request answer) p its_file)

-- where no Java path is alone in the listing, the files hold no form
pub none_told : (command : Apply) (path : List ℕ) (paths slices : List (List ℕ)) (answer : FirstPath) (told listed : Option Files) → listed ≡ told
    → IfSome listed (λ files. IsOrdered command.src files paths)
    → slices ≡ paths → ((at : List ℕ) → filter is_java_path slices ≡ at ∷ [] → ⊥)
    → answer ≡ NotYet
    → IfSome told (λ files. IsRight command files path answer)
none_told command path paths slices answer None listed e h s none is = tt
none_told command path paths slices answer (Some files) listed e h s none is =
    let h' : IsOrdered command.src files paths = subst (λ o. IfSome o (λ files. IsOrdered command.src files paths)) e h in
    record {
      of_form = λ at form holds. absurd (none at (ap (filter is_java_path) s ∙ lists_only command.src files paths h'.listing at holds.only_file (ap is_some holds.file_is)));
      some_form = λ some. absurd (some is);
    }

-- and the one file can be read where the world is honest
pub never_absent : (command : Apply) (path : List ℕ) (paths : List (List ℕ)) (told listed read : Option Files) → listed ≡ told → read ≡ listed → IsSome told
    → IfSome listed (λ files. IsOrdered command.src files paths)
    → filter is_java_path paths ≡ path ∷ []
    → IfSome read (λ files. files command.src path ≡ None)
    → ⊥
never_absent command path paths None listed read e f some h one i = absurd (true≢false (sym some))
never_absent command path paths (Some files) listed read e f some h one i =
    let h' : IsOrdered command.src files paths = subst (λ o. IfSome o (λ files. IsOrdered command.src files paths)) e h in
    let i' : files command.src path ≡ None = subst (λ o. IfSome o (λ files. files command.src path ≡ None)) (f ∙ e) i in
    true≢false (sym (only_listed command.src files paths h'.listing path one).1 ∙ ap is_some i')
