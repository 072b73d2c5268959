-- How much of a line goes out in pieces.
use Rattle.std.proofs.Common.{◌≡◌, ◌≤◌, ◌+◌, ℕ, List, ◌++◌, Bool, true, false, Result, Ok, Err, OnOk, OnErr, length, take, sym, subst, arith, Option}
use Rattle.std.proofs.lemmas.List.{take-append-le, take_all}
use Rattle.std.specs.Io.KnownBytes.{Appends}
use Rattle.line_program.proofs.Known.{Appends-then}
use Rattle.line_program.proofs.Outputs.{take_past}

-- a front of a piece is one of the piece and of what stands behind it
pub first_front : (u v : Option (List ℕ)) (a r : List ℕ) (n : ℕ) → n ≤ length a → Appends u v (take n a) → Appends u v (take n (a ++ r))
first_front u v a r n few out = subst (Appends u v) (sym (take-append-le n a r few)) out

-- a whole piece, and then a front of the others
pub front_then : (u v w : Option (List ℕ)) (a r : List ℕ) (n : ℕ) → Appends u v a → Appends v w (take n r) → Appends u w (take (length a + n) (a ++ r))
front_then u v w a r n first rest = subst (Appends u w) (sym (take_past a r n)) (Appends-then u v w a (take n r) first rest)

-- the whole is a front
pub whole_front : (u v : Option (List ℕ)) (a : List ℕ) → Appends u v a → Appends u v (take (length a) a)
whole_front u v a out = subst (Appends u v) (sym (take_all (length a) a (omega arith))) out

-- what was written whole, unless the sink failed
pub told_or_failed : {T E : Type 0} (r : Result T E) (marked : Bool) (A : Type 0) → OnOk r A → OnErr r (marked ≡ true) → marked ≡ false → A
told_or_failed (Ok x) marked A told failed unmarked = told
told_or_failed (Err e) marked A told failed unmarked = absurd (cc)

-- and a front of it in any case
pub told_front : {T E : Type 0} (r : Result T E) (u v : Option (List ℕ)) (line : List ℕ) → OnOk r (Appends u v line) → OnErr r ((n : ℕ) × Appends u v (take n line))
    → (n : ℕ) × Appends u v (take n line)
told_front (Ok x) u v line told begun = (length line, whole_front u v line told)
told_front (Err e) u v line told begun = begun
