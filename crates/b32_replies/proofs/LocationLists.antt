-- Words that list locations.
use Rattle.std.proofs.Common.{◌≡◌, ◌≢◌, ℕ, ◌≤◌, min, List, [], ◌∷◌, ◌++◌, map, take, length, sym, ap, ◌∙◌, arith, append_assoc, append-nil, Option, MatchOption, Bor}
use Rattle.std.proofs.ByRecursion.{All-push}
use Rattle.std.proofs.lemmas.List.{length-take, map-append}
use Rattle.std.proofs.lemmas.Str.Pattern.{IsSplitOnceResult}
use Rattle.std.specs.Fmt.{decimal}
use Rattle.std.specs.List.{AllByRecursion}
use Rattle.bech32_bch.specs.Erasures.{with_erasures}
use Rattle.line_program.proofs.Split.{split-split_once}
use Rattle.b32_replies.specs.Locations.{pieces, AreLocations, IsNoListOfLocations}
use Rattle.b32_replies.proofs.FewLocations.{first-more}

-- the pieces of a word, by what `split_once` returns
pub pieces-split_once : (bs : List ℕ) (r : Option (Bor (List ℕ) × Bor (List ℕ))) → IsSplitOnceResult 44 bs r
    → MatchOption r (pieces bs ≡ bs ∷ []) (λ x. pieces bs ≡ x.0.now ∷ pieces x.1.now)
pieces-split_once bs r h = split-split_once 44 bs r (omega arith) h

pub no_location : (given all : List ℕ) (piece : List ℕ) (more : List (List ℕ)) → map decimal given ++ (piece ∷ more) ≡ map decimal all
    → AllByRecursion (λ i. i ≤ 1022) all → ((n : ℕ) → n ≤ 1022 → piece ≢ decimal n) → ⊥
no_location [] [] piece more e below bad = cc
no_location (g ∷ given) [] piece more e below bad = cc
no_location [] (n ∷ all) piece more e below bad = bad n below.0 cc
no_location (g ∷ given) (n ∷ all) piece more e below bad =
    let rest : map decimal given ++ (piece ∷ more) ≡ map decimal all = cc in no_location given all piece more rest below.1 bad

-- a word of which the last part is left: the locations of the others, and the first different ones of these
pub record IsReadTo (k : ℕ) (word rest few : List ℕ) : Type 0 where
  pub given : List ℕ
  pub pieces_are : pieces word ≡ map decimal given ++ pieces rest
  pub below : AllByRecursion (λ i. i ≤ 1022) given
  pub few_are : few ≡ take k (with_erasures [] given)

pub few_size : (k : ℕ) (word rest few : List ℕ) → IsReadTo k word rest few → length few ≤ k
few_size k word rest few read =
    let size : length (take k (with_erasures [] read.given)) ≡ min k (length (with_erasures [] read.given)) = length-take k (with_erasures [] read.given) in
    omega (arith, ap (λ (s : List ℕ). length s) read.few_are)

-- a piece that is not a location
pub no_list : (k : ℕ) (word rest few piece : List ℕ) (more : List (List ℕ)) → IsReadTo k word rest few → pieces rest ≡ piece ∷ more
    → ((n : ℕ) → n ≤ 1022 → piece ≢ decimal n) → IsNoListOfLocations word
no_list k word rest few piece more read cut bad all h =
    no_location read.given all piece more
    (sym (read.pieces_are ∙ ap (λ (t : List (List ℕ)). map decimal read.given ++ t) cut) ∙ h.pieces_are) h.below bad

-- a piece that is one, behind others that are
one_more : (k : ℕ) (word rest few piece : List ℕ) (location : ℕ) (more : List (List ℕ)) (read : IsReadTo k word rest few) → pieces rest ≡ piece ∷ more → piece ≡ decimal location
    → pieces word ≡ map decimal (read.given ++ (location ∷ [])) ++ more
one_more k word rest few piece location more read cut is =
    read.pieces_are
    ∙ ap (λ (t : List (List ℕ)). map decimal read.given ++ t) cut
    ∙ ap (λ (p : List ℕ). map decimal read.given ++ (p ∷ more)) is
    ∙ sym (append_assoc (map decimal read.given) (decimal location ∷ []) more)
    ∙ ap (λ (front : List (List ℕ)). front ++ more) (sym (map-append decimal read.given (location ∷ [])))

pub read_on : (k : ℕ) (word rest few new piece others : List ℕ) (location : ℕ) → IsReadTo k word rest few → pieces rest ≡ piece ∷ pieces others → piece ≡ decimal location → location ≤ 1022
    → new ≡ take k (with_erasures few (location ∷ [])) → IsReadTo k word others new
read_on k word rest few new piece others location read cut is small added = record {
  given = read.given ++ (location ∷ []);
  pieces_are = one_more k word rest few piece location (pieces others) read cut is;
  below = All-push (λ (i : ℕ). i ≤ 1022) read.given location read.below small;
  few_are = first-more k few new read.given location read.few_are added;
}

-- the last piece
pub read_all : (k : ℕ) (word rest few new : List ℕ) (location : ℕ) → IsReadTo k word rest few → pieces rest ≡ rest ∷ [] → rest ≡ decimal location → location ≤ 1022
    → new ≡ take k (with_erasures few (location ∷ [])) → (given : List ℕ) × AreLocations word given × (new ≡ take k (with_erasures [] given))
read_all k word rest few new location read cut is small added = (
  read.given ++ (location ∷ []),
  record {
    pieces_are = one_more k word rest few rest location [] read cut is ∙ append-nil (map decimal (read.given ++ (location ∷ [])));
    below = All-push (λ (i : ℕ). i ≤ 1022) read.given location read.below small;
  },
  first-more k few new read.given location read.few_are added,
)
