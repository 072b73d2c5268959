-- What may be said of descriptors.
use Rattle.std.specs.Prelude.{flat_map}
use Rattle.std.proofs.Common.{◌≡◌, ◌≢◌, ◌++◌, ◌∷◌, [], ◌∙◌, map, ℕ, inl, inr, List, refl, sym, ap, codes}
use Rattle.bech32_descriptor.specs.Mends.{AreMends, IsMendRefusal}
use Rattle.bech32_descriptor.specs.declared.edits.Edit.{Edit}
use Rattle.bech32_descriptor.specs.declared.error.MendError.{MendError}
use Rattle.bech32_descriptor.specs.declared.error.MendError.TheVariants.{Memory}
use Rattle.bech32_descriptor.proofs.Short.{some_mends}
use Rattle.line_program.specs.Refused.{err}
use Rattle.mend.specs.Numbers.{number_of_mend_error}
use Rattle.mend.specs.Reply.{IsDescriptorAnswer, said_of_mend}

module _ {A : Type 0} (f : A → Edit × List ℕ) where
  said_each : (found : List A) → flat_map (λ m. said_of_mend m.0 m.1) (map f found) ≡ flat_map (λ m. said_of_mend (f m).0 (f m).1) found
  said_each [] = refl
  said_each (m ∷ ms) = ap (λ (l : List ℕ). said_of_mend (f m).0 (f m).1 ++ l) (said_each ms)

  pub says-mends : (text : List ℕ) (found : List A) (said : List ℕ) → AreMends 1 text (map f found) → said ≡ codes "ok" ++ flat_map (λ m. said_of_mend (f m).0 (f m).1) found
      → IsDescriptorAnswer text said
  says-mends text found said are is = inl (record { found = map f found; are = are; spelling = is ∙ ap (λ (l : List ℕ). codes "ok" ++ l) (sym (said_each found)) })

  -- where there are some, out of memory may be said
  pub no-room : (text : List ℕ) (found : List A) → AreMends 1 text (map f found) → found ≢ [] → IsMendRefusal 8 7500 text Memory
  no-room text [] are some = absurd (some refl)
  no-room text (m ∷ ms) are some = some_mends 1 text (f m) (map f ms) are

pub says-no_mends : (text : List ℕ) (e : MendError) → IsMendRefusal 8 7500 text e → IsDescriptorAnswer text (err (number_of_mend_error e))
says-no_mends text e h = inr (record { error = e; is_refusal = h; spelling = refl })
