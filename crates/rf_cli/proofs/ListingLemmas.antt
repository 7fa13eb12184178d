-- A listing whose paths stand in another order is a listing.
use Rattle.std.proofs.Common.{ℕ, List, Option, Some, None, IfSome}
use Rattle.std.specs.List.Sorted.{IsPermutation}
use Rattle.std.specs.Str.{bytes_eq}
use Rattle.std.proofs.lemmas.Cmp.{nat_list_eq_equiv}
use Rattle.std.proofs.lemmas.List.Sorted.{Contains-permutation, IsPermutation-sym}
use Rattle.std.proofs.lemmas.Map.Keys.{IsDistinct-IsPermutation}
use Rattle.std.proofs.lemmas.Map.Made.{AllPairs-from_IsDistinct, IsDistinct-from_AllPairs}
use Rattle.std.proofs.lemmas.Slice.Eq.{bytes_eq-Decides}
use Rattle.rf_world.specs.World.{Files, AreDistinct, IsListing}
use Rattle.rf_cli.specs.Listing.{AreInOrder, IsOrdered}

module _ (paths moved : List (List ℕ)) (moves : IsPermutation paths moved) where
  pub distinct_moved : AreDistinct paths → AreDistinct moved
  distinct_moved distinct =
      AllPairs-from_IsDistinct bytes_eq-Decides moved
      (IsDistinct-IsPermutation bytes_eq nat_list_eq_equiv.symm paths moved moves (IsDistinct-from_AllPairs bytes_eq-Decides paths distinct))

  listing_moved : (root : List ℕ) (files : Files) → IsListing root files paths → IsListing root files moved
  listing_moved root files listing = record {
    once = distinct_moved listing.once;
    sound = λ path there. listing.sound path (Contains-permutation moved paths path (IsPermutation-sym paths moved moves) there);
    whole = λ path stands. Contains-permutation paths moved path moves (listing.whole path stands);
  }

  pub ordered : (root : List ℕ) (told : Option Files) → AreInOrder moved → IfSome told (λ files. IsListing root files paths) → IfSome told (λ files. IsOrdered root files moved)
  ordered root None order listed = tt
  ordered root (Some files) order listed = record { listing = listing_moved root files listed; order = order }
