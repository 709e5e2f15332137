use Rattle.std.proofs.Common.{◌≡◌, ℕ, ◌≤◌, Bool, false, List, length, refl, sym, ap, ◌∙◌, arith}
use Rattle.std.specs.Prelude.{Option, Some, None, slice_get, nat_lt, if◌then◌else◌}
use Rattle.std.proofs.lemmas.Bool.Decides.{nat_tests}
use Rattle.std.proofs.lemmas.Option.{slice_get_read, slice_get_past}
use Rattle.capture_feed.specs.Numbers.{number_at}
use Rattle.capture_feed.specs.Pcapng.{PlainSection, enhanced_on, enhanced_packet, packet_on}
use Rattle.capture_feed.specs.Sections.{plain_section}
use Rattle.capture_feed.specs.declared.content.Interface.{Interface}
use Rattle.capture_feed.proofs.section.Section.enhanced_packet.Goals as goal

looked : (s : PlainSection) (total n : ℕ) (rest : List ℕ) (o : Option Interface) → 32 ≤ total → n ≡ number_at s.is_big 8 4 rest → slice_get s.interfaces n ≡ o →
    enhanced_packet s total rest ≡ enhanced_on o (number_at s.is_big 20 4 rest) total
looked s total n rest o long n_is look =
    let t : nat_lt total 32 ≡ false = grind (arith, nat_tests) in
    ap (λ (b : Bool). if b then None else enhanced_on (slice_get s.interfaces (number_at s.is_big 8 4 rest)) (number_at s.is_big 20 4 rest) total) t
    ∙ (ap (λ k. enhanced_on (slice_get s.interfaces k) (number_at s.is_big 20 4 rest) total) (sym n_is)
    ∙ ap (λ x. enhanced_on x (number_at s.is_big 20 4 rest) total) look)

pub returns-in-Some-clause-content : goal.returns-in-Some-clause-content
returns-in-Some-clause-content c =
    let s = plain_section c.args.self.now in
    let look : slice_get c.as_slice.result.now c.u32_at-number.result ≡ Some c.in-Some.interface.now =
    slice_get_read c.as_slice.result.now (length c.as_slice.result.now) c.u32_at-number.result c.in-Some.interface.now refl c.in-Some.ensures.lookup.3.0 c.in-Some.ensures.lookup.1 in
    c.packet_on.ensures.content
    ∙ (ap (λ k. packet_on c.in-Some.interface.now 28 k c.args.total) c.u32_at.ensures
    ∙ sym (looked s c.args.total c.u32_at-number.result c.args.rest.now (Some c.in-Some.interface.now) (omega arith) c.u32_at-number.ensures
    (sym (ap (λ xs. slice_get xs c.u32_at-number.result) c.as_slice.ensures.value) ∙ look)))

pub returns-in-None-clause-content : goal.returns-in-None-clause-content
returns-in-None-clause-content c =
    let s = plain_section c.args.self.now in
    let look : slice_get c.as_slice.result.now c.u32_at-number.result ≡ None = slice_get_past c.as_slice.result.now c.u32_at-number.result c.in-None.ensures.lookup.3 in
    sym (looked s c.args.total c.u32_at-number.result c.args.rest.now None (omega arith) c.u32_at-number.ensures
    (sym (ap (λ xs. slice_get xs c.u32_at-number.result) c.as_slice.ensures.value) ∙ look))
