-- The texts of a line, one after another.
use Rattle.std.proofs.Common.{◌≡◌, ◌⊎◌, ℕ, List, [], ◌∷◌, ◌++◌, inl, inr, ap, ◌∙◌, sym, subst, append_assoc, append-nil}
use Rattle.codex32.specs.Share.{AreSharesOf, IsEither, IsShareOf, IsShareRefusal, identifier_of_share, index_of_share, payload_of_share, threshold_of_share}
use Rattle.codex32.specs.declared.error.Codex32Error.{Codex32Error}
use Rattle.codex32.specs.declared.error.Codex32Error.TheVariants.{Memory}
use Rattle.codex32.specs.declared.share.Share.{Share}
use Rattle.c32_replies.specs.Reply.{IsTextRefusal}

module _ (left behind : List (List ℕ)) (word : List ℕ) (e : left ≡ word ∷ behind) where
  -- the first of what is left is refused
  pub refused-here : (all : List (List ℕ)) (f : Codex32Error) → ((f : Codex32Error) → IsTextRefusal left f → IsTextRefusal all f) → (f ≡ Memory) ⊎ IsShareRefusal word f
      → (f ≡ Memory) ⊎ IsTextRefusal all f
  refused-here all f more (inl out) = inl out
  refused-here all f more (inr is) = inr (more f (subst (λ ts. IsTextRefusal ts f) (sym e) (inl is)))

  -- or is a string, and what stands behind it is refused
  pub refused-behind : (all : List (List ℕ)) (s : Share) → ((f : Codex32Error) → IsTextRefusal left f → IsTextRefusal all f) → IsShareOf word s
      → (f : Codex32Error) → IsTextRefusal behind f → IsTextRefusal all f
  refused-behind all s more is f h =
      let either : IsEither word = (threshold_of_share s, identifier_of_share s, index_of_share s, payload_of_share s, is.is_string) in
      more f (subst (λ ts. IsTextRefusal ts f) (sym e) (inr (either, h)))

  shares-first : (s : Share) (ss : List Share) → IsShareOf word s → AreSharesOf behind ss → AreSharesOf left (s ∷ ss)
  shares-first s ss h hs = subst (λ ts. AreSharesOf ts (s ∷ ss)) (sym e) (h, hs)

  -- with one more share
  pub shares-turn : (all : List (List ℕ)) (old new : List Share) → ((ss : List Share) → AreSharesOf left ss → AreSharesOf all (old ++ ss)) → (s : Share) → IsShareOf word s → new ≡ old ++ (s ∷ [])
      → (ss : List Share) → AreSharesOf behind ss → AreSharesOf all (new ++ ss)
  shares-turn all old new read s h more ss hs =
      subst (AreSharesOf all) (sym (ap (λ (l : List Share). l ++ ss) more ∙ append_assoc old (s ∷ []) ss)) (read (s ∷ ss) (shares-first s ss h hs))

-- with the share of the last text
pub shares-last : (left : List (List ℕ)) (word : List ℕ) → left ≡ word ∷ [] → (all : List (List ℕ)) (old new : List Share) → ((ss : List Share) → AreSharesOf left ss → AreSharesOf all (old ++ ss))
    → (s : Share) → IsShareOf word s → new ≡ old ++ (s ∷ []) → AreSharesOf all new
shares-last left word e all old new read s h more = subst (AreSharesOf all) (append-nil new) (shares-turn left [] word e all old new read s h more [] tt)
