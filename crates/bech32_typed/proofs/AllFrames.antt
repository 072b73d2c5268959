-- All that is added are frames.
use Rattle.std.proofs.Common.{◌≡◌, ◌∙◌, ◌&&◌, ℕ, zero, suc, Bool, true, false, cond, List, [], ◌∷◌, ◌++◌, drop, length, refl, sym, ap, true≢false}
use Rattle.std.specs.Prelude.{nat_eq}
use Rattle.std.specs.List.{filter, fold, list_all, list_any}
use Rattle.std.specs.Cmp.Lexicographic.{pointwise}
use Rattle.std.proofs.lemmas.List.Folds.{list_all-append}
use Rattle.bech32_typed.specs.Frames.{frames_before, frames_by, is_frame, made_by, with_frames, with_text}

-- one more text
all-with_text : (texts : List (List ℕ)) (text : List ℕ) → list_all is_frame texts ≡ true → is_frame text ≡ true → list_all is_frame (with_text texts text) ≡ true
all-with_text texts text all is = by (list_any (pointwise nat_eq text) texts) refl
  where
    by : (b : Bool) → list_any (pointwise nat_eq text) texts ≡ b → list_all is_frame (cond b texts (texts ++ text ∷ [])) ≡ true
    by true h = all
    by false h = list_all-append is_frame texts (text ∷ []) ∙ ap (λ b. b && (is_frame text && true)) all ∙ ap (λ b. b && true) is

-- those that are kept of some texts
all-with_frames : (before texts : List (List ℕ)) → list_all is_frame before ≡ true → list_all is_frame (with_frames before texts) ≡ true
all-with_frames before [] all = all
all-with_frames before (text ∷ texts) all = by (is_frame text) refl (λ b h. all-with_frames b texts h)
  where
    by : (b : Bool) → is_frame text ≡ b → ((kept : List (List ℕ)) → list_all is_frame kept ≡ true → list_all is_frame (with_frames kept texts) ≡ true)
        → list_all is_frame (fold with_text before (cond b (text ∷ filter is_frame texts) (filter is_frame texts))) ≡ true
    by true h rest = rest (with_text before text) (all-with_text before text all h)
    by false h rest = rest before all

all-frames_before : (slips : ℕ) (text : List ℕ) → list_all is_frame (frames_before slips text) ≡ true
all-frames_before zero text = refl
all-frames_before (suc slips) text = all-with_frames (frames_before slips text) (made_by slips text) (all-frames_before slips text)

all-drop : (n : ℕ) (texts : List (List ℕ)) → list_all is_frame texts ≡ true → list_all is_frame (drop n texts) ≡ true
all-drop zero texts all = all
all-drop (suc n) [] all = refl
all-drop (suc n) (text ∷ texts) all = all-drop n texts (rest (is_frame text) all)
  where
    rest : (b : Bool) → (b && list_all is_frame texts) ≡ true → list_all is_frame texts ≡ true
    rest true h = h
    rest false h = absurd (true≢false (sym h))

pub all-frames_by : (slips : ℕ) (text : List ℕ) → list_all is_frame (frames_by slips text) ≡ true
all-frames_by slips text = all-drop (length (frames_before slips text)) (frames_before (suc slips) text) (all-frames_before (suc slips) text)
