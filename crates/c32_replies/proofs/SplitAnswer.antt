-- Where a secret is split, its shares are said, or out of memory.
use Rattle.std.proofs.Common.{◌≡◌, ◌⊎◌, ◌+◌, ℕ, inl, inr, List, [], ◌∷◌, Option, Some, None, refl, sym, ap, ◌∙◌, arith}
use Rattle.std.proofs.lemmas.Fmt.{decimal_injective}
use Rattle.codex32.specs.Numbers.{number_of_codex32_error}
use Rattle.codex32.specs.HeaderParts.{threshold_word}
use Rattle.codex32.specs.declared.error.Codex32Error.TheVariants as text_errors
use Rattle.codex32.specs.declared.identifier.Identifier.{Identifier}
use Rattle.codex32.specs.declared.threshold.Threshold.{Threshold}
use Rattle.codex32.proofs.Same.{threshold-path}
use Rattle.line_program.specs.Refused.{err}
use Rattle.c32_replies.specs.Numbers.{number_of_codex32_reply}
use Rattle.c32_replies.specs.Request.{AskedSplit}
use Rattle.c32_replies.specs.Split.{AreSharesFor, IsAskedBy, IsCountWord, IsSplitAnswer, IsSplitLineRefusal, SaysShares, split_fault}
use Rattle.c32_replies.specs.declared.refusal.Refusal.{Refusal}
use Rattle.c32_replies.specs.declared.refusal.Refusal.TheVariants as refusals

same_some : {A : Type 0} (a b : A) → ◌≡◌ {A = Option A} (Some a) (Some b) → a ≡ b
same_some a b e = cc

one_count : (word : List ℕ) (n m : ℕ) → IsCountWord word n → IsCountWord word m → n ≡ m
one_count word n m a b = decimal_injective n m (omega (arith, a.0)) (omega (arith, b.0)) (sym a.1 ∙ b.1)

one_threshold : (word : List ℕ) (t u : Threshold) → word ≡ threshold_word t → word ≡ threshold_word u → t ≡ u
one_threshold word t u a b = let same : 48 + t.number ≡ 48 + u.number = heads (sym a ∙ b) in threshold-path t u (omega (arith, same))
  where
    heads : {x y : ℕ} → x ∷ [] ≡ y ∷ [] → x ≡ y
    heads e = cc

-- one secret is split in one way
one_fault : (asked : AskedSplit) (n m : ℕ) (s r p q : List ℕ) (t u : Threshold) (i j : Identifier) → IsAskedBy asked n s r t i → IsAskedBy asked m p q u j → split_fault u m p q ≡ split_fault t n s r
one_fault asked n m s r p q t u i j a b =
    let count : m ≡ n = one_count asked.count m n b.read.count_is a.read.count_is in
    let secret : p ≡ s = same_some p s (sym b.read.secret_is ∙ a.read.secret_is) in
    let random : q ≡ r = same_some q r (sym b.read.random_is ∙ a.read.random_is) in
    let threshold : u ≡ t = one_threshold asked.threshold u t b.of_split.threshold_is a.of_split.threshold_is in
    ap (λ (v : Threshold). split_fault v m p q) threshold ∙ ap (λ (k : ℕ). split_fault t k p q) count ∙ ap (λ (l : List ℕ). split_fault t n l q) secret ∙ ap (λ (l : List ℕ). split_fault t n s l) random

module _ (asked : AskedSplit) (count : ℕ) (secret random said : List ℕ) (t : Threshold) (i : Identifier) (is : IsAskedBy asked count secret random t i) (fine : split_fault t count secret random ≡ None) where
  not_split : (e : Refusal) → said ≡ err (number_of_codex32_reply e) → IsSplitLineRefusal asked e → said ≡ err 91
  not_split refusals.BadNumber spelling h = absurd (h count is.read.count_is)
  not_split refusals.BadHex spelling (n, word, inl none) = absurd (let k = sym is.read.secret_is ∙ none in cc)
  not_split refusals.BadHex spelling (n, word, inr none) = absurd (let k = sym is.read.random_is ∙ none in cc)
  not_split (refusals.Header e) spelling (n, s, r, read, fault) = absurd (let k = sym is.of_split.fine ∙ fault in cc)
  not_split (refusals.Split e) spelling (n, s, r, u, j, by, fault) =
      let none : split_fault u n s r ≡ None = one_fault asked count n secret random s r t u i j is by ∙ fine in
      absurd (let k = sym none ∙ fault in cc)
  not_split (refusals.Text e) spelling h = spelling ∙ ap (λ e. err (number_of_codex32_error e)) h.0
  not_split (refusals.Payload e) spelling h = absurd h
  not_split (refusals.Encode e) spelling h = absurd h
  not_split (refusals.Derive e) spelling h = absurd h

  pub shares_said : IsSplitAnswer asked said → SaysShares asked said ⊎ (said ≡ err 91)
  shares_said (inl s) = inl s
  shares_said (inr r) = inr (not_split r.error r.spelling r.is_refusal)

-- out of memory is said only where the shares are there
pub says-no_memory : (asked : AskedSplit) (count n : ℕ) (texts : List ℕ) → AreSharesFor asked count n texts → IsSplitAnswer asked (err 91)
says-no_memory asked count n texts h = inr (record {
  error = refusals.Text text_errors.Memory;
  is_refusal = (refl, (count, h.secret, h.random, h.t, h.i, h.is_asked, h.unrefused));
  spelling = refl;
})
