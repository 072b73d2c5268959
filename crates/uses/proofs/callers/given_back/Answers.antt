use Rattle.std.proofs.Common.{◌≡◌, ◌∙◌, ◌*◌, arith, List, Vec, Global, ℕ, drop, string_bytes, subst, sym, take, ap, zero-mul}
use Rattle.std.proofs.lemmas.List.{take-take}
use Rattle.codex32.specs.Share.{IsShareOf}
use Rattle.codex32.specs.Split.{text_at}
use Rattle.uses.proofs.Recovered.{bytes-given, given_bytes}
use Rattle.uses.proofs.callers.given_back.Goals as goal

shorter : (n : ℕ) (l : List ℕ) → take n (take (2 * n) l) ≡ take n l
shorter n l = take-take n (2 * n) l (omega arith)

pub returns : goal.returns
returns c =
    let n : ℕ = c.in-Ok.size in
    let texts : List ℕ = take (3 * n) c.split_into.new.buffer in
    let text = string_bytes c.in-Ok-recover.text in
    let front : take n c.split_at.result.0.now ≡ text_at n texts 0 = ap (λ (l : List ℕ). take n l) c.split_at.ensures.front ∙ shorter n texts ∙ ap (λ (k : ℕ). take n (drop k texts)) (sym (zero-mul n)) in
    let of_first : IsShareOf (text_at n texts 0) c.in_ok-first.first = subst (λ (t : List ℕ). IsShareOf t c.in_ok-first.first) front c.in_ok-first.ensures in
    let of_third : IsShareOf (text_at n texts 2) c.in_ok-third.third = subst (λ (t : List ℕ). IsShareOf (take n t) c.in_ok-third.third) c.split_at.ensures.back c.in_ok-third.ensures in
    bytes-given (λ (v : Vec ℕ Global). v.items) text c.args.secret.now c.bytes_of.result (rw c.deref.ensures at c.bytes_of.ensures)
    (λ s of. given_bytes c.in_ok-threshold.threshold c.args.identifier c.args.secret.now n texts c.in_ok-first.first c.in_ok-third.third s text c.in-Ok.ensures.recovers c.in_ok-threshold.ensures of_first of_third
    c.in-Ok-recover.ensures.refused.0 c.in-Ok-recover.ensures.value of)
