-- What a sink holds after a piece, and after the pieces of a text.
use Rattle.std.proofs.Common.{◌≡◌, ℕ, zero, suc, ◌+◌, ◌-◌, ◌^◌, ◌≤◌, ◌<◌, List, [], ◌∷◌, ◌++◌, length, length-append, take, drop, min, ap, sym, subst, refl, ◌∙◌, append-nil, append_assoc, arith, rules, true, false, is_err, Result, Ok, Err, OnOk}
use Rattle.std.proofs.Math.Decide.{dec_lt}
use Rattle.std.proofs.lemmas.List.{take_all, take-append-le, take-append-drop, length-take-le, drop_all}
use Rattle.std.specs.List.{FoldsTo, concat}
use Rattle.std.specs.Fmt.{WritesInCalls}
use Rattle.std.specs.Str.{is_utf8, IsUtf8}
use Rattle.std.proofs.lemmas.Str.{is_utf8-from_IsUtf8, IsUtf8-from_is_utf8, IsUtf8-append}
use Rattle.bech32_hrp.specs.declared.sink.HrpSink.{HrpSink}
use Rattle.bech32_hrp.specs.Sink.{Holds, Takes}

take_front : (n : ℕ) (t s : List ℕ) → take n (take n t ++ s) ≡ take n (t ++ s)
take_front zero t s = refl
take_front (suc n) [] s = refl
take_front (suc n) (x ∷ t) s = ap (λ (l : List ℕ). x ∷ l) (take_front n t s)

-- a front that is as long as asked, or all there is
close : (k : ℕ) (a b : List ℕ) → length a ≤ k → (length a < k → b ≡ []) → take k (a ++ b) ≡ a
close k a b l e =
    elim (dec_lt (length a) k) [
      | yes short ↦ ap (λ (x : List ℕ). take k (a ++ x)) (e short) ∙ ap (take k) (append-nil a) ∙ take_all k a l
      | no full ↦ take-append-le k a b (omega (arith, full)) ∙ take_all k a l
    ]

cut : (at : ℕ) (buf : List ℕ) → length buf ≡ 83 → take (min at 83) buf ≡ take at buf
cut at buf b =
    elim (dec_lt 83 at) [
      | yes past ↦ take_all (min at 83) buf (omega (arith, b, past)) ∙ sym (take_all at buf (omega (arith, b, past)))
      | no within ↦ ap (λ (k : ℕ). take k buf) (omega (arith, within))
    ]

-- the bytes of a buffer of 83 that are kept after a piece
pub kept : (buf s new : List ℕ) (at n m : ℕ) → length buf ≡ 83 → n ≡ min (length s) (83 - min at 83) → m ≡ min (at + length s) (2 ^ 64 - 1)
    → new ≡ take (min at 83) buf ++ (take n s ++ drop (min at 83 + n) buf) → take m new ≡ take 83 (take at buf ++ s)
kept buf s new at n m b e f p =
    let front = take (min at 83) buf in
    let all = front ++ take n s in
    let long : length all ≡ min at 83 + n = length-append front (take n s) ∙ ap (λ (k : ℕ). k + length (take n s)) (length-take-le (min at 83) buf (omega (arith, b))) ∙ ap (λ (k : ℕ). min at 83 + k) (length-take-le n s (omega (arith, e))) in
    let left : take m (all ++ drop (min at 83 + n) buf) ≡ all = close m all _ (omega (arith, long, e, f)) (λ h. drop_all _ buf (omega (arith, long, e, f, h, b))) in
    let right : take 83 (all ++ drop n s) ≡ all = close 83 all _ (omega (arith, long, e)) (λ h. drop_all n s (omega (arith, long, e, h))) in
    ap (take m) (p ∙ sym (append_assoc front (take n s) (drop (min at 83 + n) buf))) ∙ left ∙ sym right
    ∙ ap (take 83) (append_assoc front (take n s) (drop n s) ∙ ap (λ (x : List ℕ). front ++ x) (take-append-drop n s) ∙ ap (λ (x : List ℕ). x ++ s) (cut at buf b))

calls_hold : (s : HrpSink) (pieces : List (List ℕ)) (t : HrpSink) → FoldsTo Takes s pieces t → (text : List ℕ) → Holds s text → Holds t (text ++ concat pieces)
calls_hold s [] t p text h = subst (λ (u : HrpSink). Holds u (text ++ [])) p (rw (append-nil text) h)
calls_hold s (x ∷ pieces) t p text h = rw (sym (append_assoc text x (concat pieces))) (calls_hold p.0 pieces t p.2 (text ++ x) (p.1 text h))

-- a new sink holds what was written to it
pub holds_after : (s : HrpSink) (text : List ℕ) (t : HrpSink) → WritesInCalls Takes s text t → Holds s [] → Holds t text
holds_after s text t p h = subst (Holds t) p.whole (calls_hold s p.parts t p.calls [] h)

-- the same as the code has it
pub kept_by : (buf s new : List ℕ) (at n m front : ℕ) → length buf ≡ 83 → front ≡ min at 83 → n ≡ min (length s) (83 - front) → m ≡ min (at + length s) (2 ^ 64 - 1)
    → new ≡ take front buf ++ (take n s ++ drop (front + length (take n s)) buf) → take m new ≡ take 83 (take at buf ++ s)
kept_by buf s new at n m front b a e f p =
    kept buf s new at n m b (e ∙ ap (λ (k : ℕ). min (length s) (83 - k)) a) f
    (p ∙ ap (λ (k : ℕ). take front buf ++ (take n s ++ drop (front + k) buf)) (length-take-le n s (omega (arith, e)))
    ∙ ap (λ (k : ℕ). take k buf ++ (take n s ++ drop (k + n) buf)) a)

-- a piece more of a text
pub Holds-more : (buf s new text : List ℕ) (at m : ℕ) → take m new ≡ take 83 (take at buf ++ s) → m ≡ min (at + length s) (2 ^ 64 - 1)
    → take at buf ≡ take 83 text → at ≡ min (length text) (2 ^ 64 - 1)
    → (take m new ≡ take 83 (text ++ s)) × (m ≡ min (length (text ++ s)) (2 ^ 64 - 1))
Holds-more buf s new text at m k f p a =
    (k ∙ ap (λ (x : List ℕ). take 83 (x ++ s)) p ∙ take_front 83 text s, omega (arith, f, a, length-append text s))

-- a short text stays valid UTF-8
pub whole_more : (buf s new : List ℕ) (at m : ℕ) → length buf ≡ 83 → take m new ≡ take 83 (take at buf ++ s) → m ≡ min (at + length s) (2 ^ 64 - 1)
    → (at ≤ 83 → is_utf8 (take at buf) ≡ true) → IsUtf8 s → m ≤ 83 → is_utf8 (take m new) ≡ true
whole_more buf s new at m b k f u v low =
    let short : length (take at buf ++ s) ≤ 83 = omega (arith, f, low, length-append (take at buf) s, length-take-le at buf (omega (arith, f, low, b))) in
    rw (k ∙ take_all 83 (take at buf ++ s) short) (is_utf8-from_IsUtf8 (take at buf ++ s) (IsUtf8-append (take at buf) s (IsUtf8-from_is_utf8 _ (u (omega (arith, f, low)))) v))

pub not_err : {T E P : Type 0} (r : Result T E) → is_err r ≡ false → OnOk r P → P
not_err (Ok x) e p = p
not_err (Err x) e p = search rules
