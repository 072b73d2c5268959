use Rattle.std.proofs.Common.{◌≡◌, ◌∙◌, ◌++◌, ap, subst, sym, inl, inr, map, refl, List, ℕ}
use Rattle.std.specs.Prelude.{string_bytes}
use Rattle.bech32_hrp.specs.HrpBytes.{hrp_bytes}
use Rattle.bech32_suggest.specs.Typed.{as_read, unread_locations}
use Rattle.bech32_meant.specs.Added.{AddsByBoth, Answer, HasChecksum, front_for}
use Rattle.bech32_meant.proofs.added.push_frame.Goals as goal

pub returns-in_default : goal.returns-in_default
returns-in_default g c =
    let text : c.as_slice.result.now ≡ front_for (hrp_bytes c.args.asked.now.hrp.now) ++ as_read c.args.frame.now =
    c.as_slice.ensures.value ∙ c.in_ok-text.ensures ∙ ap (λ f. f ++ as_read c.args.frame.now) c.requires in
    inr (λ h. c.in_default.ensures (subst HasChecksum (sym text) h), refl)

pub returns : goal.returns
returns g c =
    let asked = c.args.asked.now in
    let text : c.as_slice.result.now ≡ front_for (hrp_bytes asked.hrp.now) ++ as_read c.args.frame.now =
    c.as_slice.ensures.value ∙ c.in_ok-text.ensures ∙ ap (λ f. f ++ as_read c.args.frame.now) c.requires in
    let before : List Answer = map (λ s. (string_bytes s.text, s.slips)) c.args.found.now.items in
    let after : List Answer = map (λ s. (string_bytes s.text, s.slips)) c.push_by_both.new.found.items in
    inl (
      subst HasChecksum text c.in-Some.ensures.0,
      subst (λ (t : List ℕ). AddsByBoth (hrp_bytes asked.hrp.now) asked.slips c.args.errors t (unread_locations c.args.frame.now) before after) (c.in-Some.ensures.1.0 ∙ text)
          (subst (λ (u : List ℕ). AddsByBoth (hrp_bytes asked.hrp.now) asked.slips c.args.errors c.in-Some.reading.text.now u before after) (c.as_slice-2.ensures.value ∙ c.in_ok-unread.ensures)
          c.in_ok-push_by_both.ensures),
    )
