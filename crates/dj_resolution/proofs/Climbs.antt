-- What loops keep that look for a member above a class: nothing was found so far.
use Rattle.std.proofs.Common.{◌≡◌, ℕ, suc, ◌+◌, ◌-◌, ◌<◌, ◌≤◌, true, false, length, Option, Some, None, IfSome, slice_get, bit_and, refl, sym, ◌∙◌, ap, subst, arith}
use Rattle.std.specs.Option.{option_map}
use Rattle.dj_names.specs.declared.descriptor.Desc.{Desc}
use Rattle.dj_names.specs.trusted.Types.{Name}
use Rattle.dj_model.specs.trusted.Program.{Program, method_in, is_static}
use Rattle.dj_model.specs.trusted.Linking.{most_classes, or_else, is_not_static}
use Rattle.dj_declarations.specs.Members.{method_flags}
use Rattle.dj_class_table.specs.Tables.{super_number, methods_at}
use Rattle.dj_resolution.specs.Numbers.{numbers_up, first_some, method_found, SaysMethod, most_above}
use Rattle.dj_resolution.proofs.Finding.{reported_first, reported_next, super_within, named, Is, static_clear, static_set}
use Rattle.dj_resolution.proofs.Walks.{no_numbers_up}

pub record IsClimbed {A : Type 0} (f : ℕ → Option A) (program : Program) (levels : ℕ) (first : Option ℕ) (i : ℕ) (next : Option ℕ) : Type 0 where
  pub same : first_some f (numbers_up levels program first) ≡ first_some f (numbers_up (levels - i) program next)
  pub within : IfSome next (λ k. k < length program)

pub climb_begun : {A : Type 0} (f : ℕ → Option A) (program : Program) (levels own : ℕ) (first : Option ℕ) → first ≡ super_number program own → IsClimbed f program levels (super_number program own) 0 first
climb_begun f program levels own first is =
    let none : levels - 0 ≡ levels = omega arith in
    record {
      same = ap (λ (o : Option ℕ). first_some f (numbers_up levels program o)) (sym is) ∙ ap (λ (n : ℕ). first_some f (numbers_up n program first)) (sym none);
      within = subst (λ (o : Option ℕ). IfSome o (λ k. k < length program)) (sym is) (super_within program (slice_get program own));
    }

one_level : {A : Type 0} (f : ℕ → Option A) (program : Program) (levels i at : ℕ) → i < levels
    → first_some f (numbers_up (levels - i) program (Some at)) ≡ or_else (f at) (first_some f (numbers_up (levels - (i + 1)) program (super_number program at)))
unfolding numbers_up
one_level f program levels i at lt =
    let level : levels - i ≡ suc (levels - (i + 1)) = omega (arith, lt) in
    ap (λ (n : ℕ). first_some f (numbers_up n program (Some at))) level

pub climbed_here : {A : Type 0} (f : ℕ → Option A) (program : Program) (levels : ℕ) (first : Option ℕ) (i at : ℕ) (t : Option A) → IsClimbed f program levels first i (Some at) → i < levels → Some t ≡ option_map Some (f at)
    → Some t ≡ option_map Some (first_some f (numbers_up levels program first))
climbed_here f program levels first i at t climbed lt reported =
    reported_first t (f at) (first_some f (numbers_up (levels - (i + 1)) program (super_number program at))) reported ∙ ap (option_map Some) (sym (climbed.same ∙ one_level f program levels i at lt))

pub climbed_more : {A : Type 0} (f : ℕ → Option A) (program : Program) (levels : ℕ) (first : Option ℕ) (i at : ℕ) (next : Option ℕ) → IsClimbed f program levels first i (Some at) → i < levels → None ≡ option_map Some (f at) → next ≡ super_number program at
    → IsClimbed f program levels first (i + 1) next
climbed_more f program levels first i at next climbed lt reported is = record {
  same = climbed.same ∙ one_level f program levels i at lt ∙ reported_next (f at) (first_some f (numbers_up (levels - (i + 1)) program (super_number program at))) reported
      ∙ ap (λ (o : Option ℕ). first_some f (numbers_up (levels - (i + 1)) program o)) (sym is);
  within = subst (λ (o : Option ℕ). IfSome o (λ k. k < length program)) (sym is) (super_within program (slice_get program at));
}

pub climbed_off : {A : Type 0} (f : ℕ → Option A) (program : Program) (levels : ℕ) (first : Option ℕ) (i : ℕ) → IsClimbed f program levels first i None → None ≡ option_map Some (first_some f (numbers_up levels program first))
climbed_off f program levels first i climbed = ap (option_map Some) (sym (climbed.same ∙ ap (first_some f) (no_numbers_up (levels - i) program)))

pub climbed_out : {A : Type 0} (f : ℕ → Option A) (program : Program) (levels : ℕ) (first : Option ℕ) (i : ℕ) (next : Option ℕ) → IsClimbed f program levels first i next → levels ≤ i → None ≡ option_map Some (first_some f (numbers_up levels program first))
unfolding numbers_up
climbed_out f program levels first i next climbed le =
    let none : levels - i ≡ 0 = omega (arith, le) in
    ap (option_map Some) (sym (climbed.same ∙ ap (λ (n : ℕ). first_some f (numbers_up n program next)) none))

-- ---- this many levels

pub most_above_is : most_above ≡ 4294967295
unfolding most_above
most_above_is = refl

pub one_more_level : most_classes ≡ suc most_above
unfolding most_classes most_above
one_more_level = refl

-- ---- methods that aren't static

pub instance_there : (program : Program) (class member : ℕ) (name : Name) (desc : Desc) (flags : ℕ) → Some (slice_get (methods_at program class) member) ≡ option_map Some (method_in (methods_at program class) name desc)
    → Some flags ≡ option_map method_flags (slice_get (methods_at program class) member) → bit_and flags 8 ≡ 0
    → SaysMethod program (Some (record { class = class; member = member })) (method_found program is_not_static name desc class)
instance_there program class member name desc flags reported flagged static = elim (named (slice_get program class) member name desc flags reported flagged) [
  | Is c m o at is same ↦ (let s : is_static m.flags ≡ false = rw (← same) (static_clear flags static) in rw (o, at, is, s) refl)
]

pub static_there : (program : Program) (class member : ℕ) (name : Name) (desc : Desc) (flags : ℕ) → Some (slice_get (methods_at program class) member) ≡ option_map Some (method_in (methods_at program class) name desc)
    → Some flags ≡ option_map method_flags (slice_get (methods_at program class) member) → (bit_and flags 8 ≡ 0 → ⊥)
    → SaysMethod program None (method_found program is_not_static name desc class)
static_there program class member name desc flags reported flagged static = elim (named (slice_get program class) member name desc flags reported flagged) [
  | Is c m o at is same ↦ (let s : is_static m.flags ≡ true = rw (← same) (static_set flags static) in rw (o, is, s) refl)
]
