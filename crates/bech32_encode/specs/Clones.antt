-- Clones of adaptors.
use Rattle.std.specs.Prelude.{◌≡◌, ℕ, List}
use Rattle.std.specs.declared.iter.Fuse.{Fuse}

-- a clone gives what the other does, over a clone of the iterator inside
pub record IsAdaptorClone {S U A B : Type 0} (is_clone : Fuse S → Fuse S → Type 0)
    (source : U → Fuse S) (gives : U → List A → List B) (more : U → ℕ) (s t : U) : Type 0 where
  pub source_clone : is_clone (source s) (source t)
  pub same_given : (xs : List A) → gives t xs ≡ gives s xs
  pub same_more : more t ≡ more s
