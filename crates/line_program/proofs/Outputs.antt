-- Replies to lines, one after another, and what is written of them.
use Rattle.std.proofs.Common.{◌≡◌, ℕ, suc, ◌+◌, ◌-◌, List, [], ◌∷◌, ◌++◌, length, take, sym, ap, subst, ◌∙◌, refl, arith, append_assoc, append-nil, inl, inr}
use Rattle.std.proofs.lemmas.Bool.{cases_lt}
use Rattle.std.proofs.lemmas.List.{take_all, take-append-le}
use Rattle.line_program.specs.Lines.{ended_from, rest_from, ended_lines}
use Rattle.line_program.specs.Output.{IsOutput, IsFront, IsBeginning}
use Rattle.line_program.proofs.Ended.{HasNoNewline, ended-append, ended-line}

pub take_past : {X : Type 0} (xs ys : List X) (n : ℕ) → take (length xs + n) (xs ++ ys) ≡ xs ++ take n ys
take_past [] ys n = let on : 0 + n ≡ n = omega arith in ap (λ k. take k ys) on
take_past (x ∷ xs) ys n =
    let on : length (x ∷ xs) + n ≡ suc (length xs + n) = omega arith in ap (λ k. take k (x ∷ (xs ++ ys))) on ∙ ap (λ l. x ∷ l) (take_past xs ys n)

-- a reply more is gathered, and some of what was gathered before is written
pub gathered-more : (written gathered reply out gathered' : List ℕ) → gathered ++ reply ≡ out ++ gathered' → (written ++ gathered) ++ reply ≡ (written ++ out) ++ gathered'
gathered-more written gathered reply out gathered' e =
    append_assoc written gathered reply ∙ ap (λ (l : List ℕ). written ++ l) e ∙ sym (append_assoc written out gathered')

-- what may be said of a line
module _ (R : List ℕ → List ℕ → Type 0) where
  pub output-one : (line said : List ℕ) → R line said → IsOutput R (line ∷ []) (said ++ 10 ∷ [])
  output-one line said h = (said, [], h, refl, refl)

  pub output-append : (xs ys : List (List ℕ)) (a b : List ℕ) → IsOutput R xs a → IsOutput R ys b → IsOutput R (xs ++ ys) (a ++ b)
  output-append [] ys a b p q = subst (λ (l : List ℕ). IsOutput R ys (l ++ b)) (sym p) q
  output-append (x ∷ xs) ys a b (said, rest, is, e, p) q = (said, rest ++ b, is, ap (λ (l : List ℕ). l ++ b) e ∙ append_assoc said (10 ∷ rest) b, output-append xs ys rest b p q)

  -- a part of the next reply
  pub part-beginning : (xs ys : List (List ℕ)) (line a said : List ℕ) (n : ℕ) → IsOutput R xs a → R line said → IsBeginning R (xs ++ line ∷ ys) (a ++ take n (said ++ 10 ∷ []))
  part-beginning xs ys line a said n p q = record {
    answered = xs;
    others = line ∷ ys;
    split = refl;
    replies = a;
    output = p;
    front = take n (said ++ 10 ∷ []);
    is_front = inr (said, n, q, refl);
    out_is = refl;
  }

  pub beginning-whole : (xs : List (List ℕ)) (a : List ℕ) → IsOutput R xs a → IsBeginning R xs a
  beginning-whole xs a p = record {
    answered = xs;
    others = [];
    split = sym (append-nil xs);
    replies = a;
    output = p;
    front = [];
    is_front = refl;
    out_is = sym (append-nil a);
  }

  pub beginning-append : (xs ys : List (List ℕ)) (a b : List ℕ) → IsOutput R xs a → IsBeginning R ys b → IsBeginning R (xs ++ ys) (a ++ b)
  beginning-append xs ys a b p q = record {
    answered = xs ++ q.answered;
    others = q.others;
    split = ap (λ (ls : List (List ℕ)). xs ++ ls) q.split ∙ sym (append_assoc xs q.answered q.others);
    replies = a ++ q.replies;
    output = output-append xs q.answered a q.replies p q.output;
    front = q.front;
    is_front = q.is_front;
    out_is = ap (λ (l : List ℕ). a ++ l) q.out_is ∙ sym (append_assoc a q.replies q.front);
  }

  pub output-more : (read bytes a b : List ℕ) → IsOutput R (ended_lines read) a → IsOutput R (ended_from (rest_from [] read) bytes) b → IsOutput R (ended_lines (read ++ bytes)) (a ++ b)
  output-more read bytes a b p q = subst (λ (ls : List (List ℕ)). IsOutput R ls (a ++ b)) (sym (ended-append [] read bytes)) (output-append _ _ a b p q)

  pub beginning-more : (read bytes a b : List ℕ) → IsOutput R (ended_lines read) a → IsBeginning R (ended_from (rest_from [] read) bytes) b → IsBeginning R (ended_lines (read ++ bytes)) (a ++ b)
  beginning-more read bytes a b p q = subst (λ (ls : List (List ℕ)). IsBeginning R ls (a ++ b)) (sym (ended-append [] read bytes)) (beginning-append _ _ a b p q)

  -- a front of an output is a beginning
  pub output-cut : (lines : List (List ℕ)) (out : List ℕ) (n : ℕ) → IsOutput R lines out → IsBeginning R lines (take n out)
  output-cut [] out n p = beginning-whole [] (take n out) (ap (λ (l : List ℕ). take n l) p ∙ take_all n [] (omega arith))
  output-cut (line ∷ lines) out n (said, rest, is, e, p) =
      let one : List ℕ = said ++ 10 ∷ [] in
      let whole : out ≡ one ++ rest = e ∙ sym (append_assoc said (10 ∷ []) rest) in
      elim (cases_lt n (length one)) [
        | inl within ↦ subst (IsBeginning R (line ∷ lines)) (sym (ap (λ (l : List ℕ). take n l) whole ∙ take-append-le n one rest (omega (arith, within)))) (part-beginning [] lines line [] said n refl is)
        | inr past ↦
            let k : ℕ = n - length one in
            let on : n ≡ length one + k = omega (arith, past) in
            subst (IsBeginning R (line ∷ lines)) (sym (ap (λ (l : List ℕ). take n l) whole ∙ ap (λ m. take m (one ++ rest)) on ∙ take_past one rest k)) (beginning-append (line ∷ []) lines one (take k rest) (output-one line said is) (output-cut lines rest k p))
      ]

  front-longer : (lines more : List (List ℕ)) (front : List ℕ) → IsFront R lines front → IsFront R (lines ++ more) front
  front-longer [] [] front e = e
  front-longer [] (line ∷ more) front e = inl e
  front-longer (line ∷ lines) more front h = h

  -- what begins the output of some lines begins that of more
  pub beginning-longer : (lines more : List (List ℕ)) (out : List ℕ) → IsBeginning R lines out → IsBeginning R (lines ++ more) out
  beginning-longer lines more out p = record {
    answered = p.answered;
    others = p.others ++ more;
    split = ap (λ (ls : List (List ℕ)). ls ++ more) p.split ∙ append_assoc p.answered p.others more;
    replies = p.replies;
    output = p.output;
    front = p.front;
    is_front = front-longer p.others more p.front p.is_front;
    out_is = p.out_is;
  }

  -- some of what is gathered is written
  pub cut-gathered : (lines : List (List ℕ)) (written gathered : List ℕ) (n : ℕ) → IsOutput R lines (written ++ gathered) → IsBeginning R lines (written ++ take n gathered)
  cut-gathered lines written gathered n p =
      subst (IsBeginning R lines) (take_past written gathered n) (output-cut lines (written ++ gathered) (length written + n) p)

  -- the same where more bytes were there to take
  pub cut-within : (before gone rest written gathered : List ℕ) (n : ℕ) → IsOutput R (ended_from before gone) (written ++ gathered)
      → IsBeginning R (ended_from before (gone ++ rest)) (written ++ take n gathered)
  cut-within before gone rest written gathered n p =
      subst (λ (ls : List (List ℕ)). IsBeginning R ls (written ++ take n gathered)) (sym (ended-append before gone rest))
      (beginning-longer _ _ _ (cut-gathered (ended_from before gone) written gathered n p))

  -- one line more that has ended
  pub turn : (before gone piece out said : List ℕ) → HasNoNewline piece → IsOutput R (ended_from before gone) out → R (rest_from before gone ++ piece) said
      → IsOutput R (ended_from before (gone ++ (piece ++ 10 ∷ []))) (out ++ (said ++ 10 ∷ []))
  turn before gone piece out said none p q =
      let split = ended-append before gone (piece ++ 10 ∷ []) ∙ ap (λ ls. ended_from before gone ++ ls) (ended-line (rest_from before gone) piece none) in
      subst (λ (ls : List (List ℕ)). IsOutput R ls (out ++ (said ++ 10 ∷ []))) (sym split)
      (output-append (ended_from before gone) _ out (said ++ 10 ∷ []) p (output-one _ said q))

  -- the same of one reply more, behind an output
  pub cut-last : (lines : List (List ℕ)) (line out said written gathered : List ℕ) (n : ℕ) → IsOutput R lines out → R line said → said ++ 10 ∷ [] ≡ written ++ gathered
      → IsBeginning R (lines ++ line ∷ []) (out ++ (written ++ take n gathered))
  cut-last lines line out said written gathered n p is whole =
      subst (λ (l : List ℕ). IsBeginning R (lines ++ line ∷ []) (out ++ l)) (ap (λ (l : List ℕ). take (length written + n) l) whole ∙ take_past written gathered n)
      (part-beginning lines [] line out said (length written + n) p is)
