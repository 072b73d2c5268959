-- Known bytes that grow, one call after another.
use Rattle.std.proofs.Common.{ℕ, ◌+◌, List, ◌++◌, take, drop, Option, sym, subst}
use Rattle.std.specs.Io.KnownBytes.{Appends}
use Rattle.std.proofs.Math.Seq.{take-add}
use Rattle.std.proofs.KnownBytes.{Appends-trans}
use Rattle.std.proofs.KnownBytes

-- bytes that grow by a, and then by b, grow by a and b
pub Appends-then : (u v w : Option (List ℕ)) (a b : List ℕ) → Appends u v a → Appends v w b → Appends u w (a ++ b)
Appends-then = Appends-trans

-- bytes that grow by the first m of a text, and then by the next n, grow by the first m + n
pub Appends-more : (u v w : Option (List ℕ)) (m n : ℕ) (xs : List ℕ) → Appends u v (take m xs) → Appends v w (take n (drop m xs)) → Appends u w (take (m + n) xs)
Appends-more u v w m n xs x y = subst (Appends u w) (sym (take-add m n xs)) (Appends-then u v w (take m xs) (take n (drop m xs)) x y)
