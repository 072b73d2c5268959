-- Bytes that are read and written, where they are known.
use Rattle.std.proofs.Common.{ℕ, List, [], ◌++◌, sym, ap, subst, ◌∙◌, append_assoc, append-nil, Option, Some, None}
use Rattle.std.specs.Io.KnownBytes.{Appends, Keeps, Consumes}

pub Appends-then : (u v w : Option (List ℕ)) (a b : List ℕ) → Appends u v a → Appends v w b → Appends u w (a ++ b)
Appends-then None v w a b x y = tt
Appends-then (Some xs) None w a b x y = absurd x
Appends-then (Some xs) (Some ys) None a b x y = y
Appends-then (Some xs) (Some ys) (Some zs) a b x y = y ∙ ap (λ (t : List ℕ). t ++ b) x ∙ append_assoc xs a b

pub Appends-kept : (u v w : Option (List ℕ)) (a : List ℕ) → Appends u v a → Keeps v w → Appends u w a
Appends-kept None v w a x y = tt
Appends-kept (Some xs) None w a x y = absurd x
Appends-kept (Some xs) (Some ys) None a x y = y
Appends-kept (Some xs) (Some ys) (Some zs) a x y = y ∙ x

pub Consumes-then : (u v w : Option (List ℕ)) (a b : List ℕ) → Consumes u v a → Consumes v w b → Consumes u w (a ++ b)
Consumes-then None v w a b x y = tt
Consumes-then (Some xs) None w a b x y = absurd x
Consumes-then (Some xs) (Some ys) None a b x y = y
Consumes-then (Some xs) (Some ys) (Some zs) a b x y = x ∙ ap (λ (t : List ℕ). a ++ t) y ∙ sym (append_assoc a b zs)

pub Consumes-kept : (u v w : Option (List ℕ)) (a : List ℕ) → Consumes u v a → Keeps v w → Consumes u w a
Consumes-kept None v w a x y = tt
Consumes-kept (Some xs) None w a x y = absurd x
Consumes-kept (Some xs) (Some ys) None a x y = y
Consumes-kept (Some xs) (Some ys) (Some zs) a x y = x ∙ ap (λ (t : List ℕ). a ++ t) (sym y)

pub Consumes-nothing : (u v w : Option (List ℕ)) (a : List ℕ) → Consumes u v a → Consumes v w [] → Consumes u w a
Consumes-nothing u v w a x y = subst (Consumes u w) (append-nil a) (Consumes-then u v w a [] x y)
