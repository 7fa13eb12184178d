-- What a command reads, and the form that it finds there.
use Rattle.std.specs.Prelude.{◌≡◌, ◌≢◌, ℕ, true, List, [], Some, IsSome}
use Rattle.rf_world.specs.World.{Files}
use Rattle.rf_jtree.specs.JavaPath.{is_java_path}
use Rattle.rf_engine.specs.declared.first_form.FirstPath.{FirstPath}
use Rattle.rf_engine.specs.declared.first_form.FirstPath.TheVariants.{NotYet}
use Rattle.rf_engine.specs.FirstForm.{FirstForm, IsForm, answer_of}
use Rattle.rf_cli.specs.Command.{Apply, no_library}

-- the path is that of a Java file, and no other Java file stands under the root
pub record IsOnlyJava (root : List ℕ) (files : Files) (path : List ℕ) : Type 0 where
  pub is_java : is_java_path path ≡ true
  pub only : (other : List ℕ) → IsSome (files root other) → is_java_path other ≡ true → other ≡ path

-- the files hold the form: there is no library, SRC has one Java file, and that file at its path and the request are of
-- the form. The request is read with the empty root.
pub record HoldsForm (command : Apply) (files : Files) (path : List ℕ) (form : FirstForm) : Type 0 where
  pub no_library : command.lib ≡ no_library
  pub request : List ℕ
  pub request_is : files [] command.request ≡ Some request
  pub only_file : IsOnlyJava command.src files path
  pub file : List ℕ
  pub file_is : files command.src path ≡ Some file
  pub is_form : IsForm form path file request

-- the path and the answer are those of the form that the files hold, and the answer is `NotYet` exactly where they hold none
pub record IsRight (command : Apply) (files : Files) (path : List ℕ) (answer : FirstPath) : Type 0 where
  pub of_form : (at : List ℕ) (form : FirstForm) → HoldsForm command files at form → (path ≡ at) × (answer ≡ answer_of form)
  pub some_form : answer ≢ NotYet → (form : FirstForm) × HoldsForm command files path form
