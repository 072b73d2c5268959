-- What an option that is made of others says of them.
use Rattle.std.specs.Prelude.{unwrap_or}
use Rattle.std.proofs.Common.{◌≡◌, ◌⊎◌, Bool, true, false, Option, Some, None, cond, inl, inr, refl, ap}
use Rattle.bech32_hrp.specs.Hrp.{first_of}

pub same_inside : {A : Type 0} (x y : A) → ◌≡◌ {A = Option A} (Some x) (Some y) → x ≡ y
same_inside {A} x y h = ap (λ (o : Option A). unwrap_or o x) h

pub not_none : {A : Type 0} (x : A) → ◌≡◌ {A = Option A} (Some x) None → ⊥
not_none x h = absurd (cc)

pub cases_option : {A : Type 0} (o : Option A) → (o ≡ None) ⊎ ((x : A) × (o ≡ Some x))
cases_option None = inl refl
cases_option (Some x) = inr (x, refl)

pub first_of-some : {A : Type 0} (f r : Option A) (x : A) → first_of f r ≡ Some x → (f ≡ Some x) ⊎ ((f ≡ None) × (r ≡ Some x))
first_of-some None r x h = inr (refl, h)
first_of-some (Some y) r x h = inl h

pub first_of-none : {A : Type 0} (f r : Option A) → first_of f r ≡ None → (f ≡ None) × (r ≡ None)
first_of-none None r h = (refl, h)
first_of-none (Some y) r h = absurd (cc)

pub cond-some : {A : Type 0} (b : Bool) (x y : A) → cond b (Some x) None ≡ Some y → (b ≡ true) × (x ≡ y)
cond-some true x y h = (refl, same_inside x y h)
cond-some false x y h = absurd (cc)

pub unless-some : {A : Type 0} (b : Bool) (x y : A) → cond b None (Some x) ≡ Some y → (b ≡ false) × (x ≡ y)
unless-some true x y h = absurd (cc)
unless-some false x y h = (refl, same_inside x y h)

pub cond-none : {A : Type 0} (b : Bool) (x : A) → cond b (Some x) None ≡ None → b ≡ false
cond-none true x h = absurd (cc)
cond-none false x h = refl

pub unless-none : {A : Type 0} (b : Bool) (x : A) → cond b None (Some x) ≡ None → b ≡ true
unless-none true x h = refl
unless-none false x h = absurd (cc)
