-- How a call ends once lent memory is back.
use Rattle.std.specs.Prelude.{Result, Ok, Err, IfOk, IfErr}
use Rattle.std.proofs.Common.{◌≡◌, inl, inr, refl, subst, sym}
use Rattle.caller_memory.specs.Memory.{IsKept}
use Rattle.caller_memory.specs.declared.memory.Memory.{Memory as Lent}
use Rattle.bech32_calls.specs.Listing.{EndsWith, ReturnsMemory}
use Rattle.bech32_calls.specs.declared.listed.Listed.{Listed}
use Rattle.bech32_calls.specs.declared.refusal.Refusal.{Refusal}
use Rattle.bech32_calls.specs.declared.refusal.Refusal.TheVariants.{Memory}

module _ (old new : Lent) where
  as_it_was : (r : Result Listed Refusal) → new ≡ old → ReturnsMemory old new r
  as_it_was (Ok listed) is = is
  as_it_was (Err e) is = inl is

  module _ (listed r : Result Listed Refusal) (h : EndsWith old new listed r) where
    pub returns_memory : ReturnsMemory old new r
    returns_memory = elim h [
      | inl is ↦ as_it_was r is.0
      | inr is ↦ subst (ReturnsMemory old new) (sym is.1) (inr ((refl, is.0.0), is.0.1))
    ]

    pub ends_ok : (P : Listed → Type 0) → IfOk listed P → IfOk r P
    ends_ok P so = elim h [
      | inl is ↦ subst (λ (t : Result Listed Refusal). IfOk t P) (sym is.1) so
      | inr is ↦ subst (λ (t : Result Listed Refusal). IfOk t P) (sym is.1) tt
    ]

    pub ends_err : (P : Refusal → Type 0) → IfErr listed P → (IsKept old new → P Memory) → IfErr r P
    ends_err P so kept = elim h [
      | inl is ↦ subst (λ (t : Result Listed Refusal). IfErr t P) (sym is.1) so
      | inr is ↦ subst (λ (t : Result Listed Refusal). IfErr t P) (sym is.1) (kept is.0)
    ]

-- what is said of each refusal
pub err_more : (P Q : Refusal → Type 0) (r : Result Listed Refusal) → ((e : Refusal) → P e → Q e) → IfErr r P → IfErr r Q
err_more P Q (Ok listed) more h = tt
err_more P Q (Err e) more h = more e h
