-- Entries of frames, one after the other.
use Rattle.std.proofs.Common.{◌≡◌, ℕ, zero, suc, ◌-◌, ◌<◌, ◌≤◌, Bool, true, false, List, [], ◌∷◌, ◌++◌, map, length, get_or, take, Option, Some, None, slice_get, nat_le, if◌then◌else◌, refl, sym, ap, ◌∙◌, arith}
use Rattle.std.proofs.lemmas.Bool.Decides.{nat_tests}
use Rattle.std.specs.Option.{option_and_then}
use Rattle.dj_names.specs.declared.descriptor.Kind.{Kind}
use Rattle.dj_names.specs.declared.descriptor.Kind.TheVariants as kinds
use Rattle.dj_ops.specs.declared.frames.VType.{VType}
use Rattle.dj_model.specs.trusted.Program.{Code}
use Rattle.dj_model.specs.trusted.Numbers.{is_wide}
use Rattle.dj_model.specs.trusted.Members.{with_kind}
use Rattle.dj_model.specs.trusted.Kinds.{Entry, Of, NoEntry, made_by, entry_of, entries_of, with_entry, entry_slots, stack_of, with_stack, with_locals, full_entries}
use Rattle.dj_shape_rule.specs.Reading.{made_as, ChangesTo}

pub made_at : (made : List Bool) (n : ℕ) → made_by (slice_get (map made_as made) n) ≡ (if get_or made n false then Of (Some kinds.Ref) else NoEntry)
made_at [] n = refl
made_at (true ∷ made) zero = refl
made_at (false ∷ made) zero = refl
made_at (b ∷ made) (suc n) = made_at made n

-- whether an instruction makes an object, where there is one of this number
pub makes_at : {A : Type 0} (f : A → Bool) (xs : List A) (n : ℕ) (x : A) → slice_get xs n ≡ Some x → get_or (map f xs) n false ≡ f x
makes_at f [] n x at = absurd cc
makes_at f (y ∷ xs) zero x at = let s : y ≡ x = cc in ap f s
makes_at f (y ∷ xs) (suc n) x at = makes_at f xs n x at

pub makes_past : {A : Type 0} (f : A → Bool) (xs : List A) (n : ℕ) → slice_get xs n ≡ None → get_or (map f xs) n false ≡ false
makes_past f [] n at = refl
makes_past f (y ∷ xs) zero at = absurd cc
makes_past f (y ∷ xs) (suc n) at = makes_past f xs n at

-- ---- slots

pub slots_more : (xs : List (Option Kind)) (x : Option Kind) → entry_slots (xs ++ x ∷ []) ≡ entry_slots xs ++ entry_slots (x ∷ [])
slots_more [] x = refl
slots_more (None ∷ xs) x = ap (λ (l : List (Option Kind)). None ∷ l) (slots_more xs x)
slots_more (Some kind ∷ xs) x = by (is_wide kind) (slots_more xs x) where
  by : (b : Bool) → entry_slots (xs ++ x ∷ []) ≡ entry_slots xs ++ entry_slots (x ∷ [])
      → (if b then Some kind ∷ None ∷ entry_slots (xs ++ x ∷ []) else Some kind ∷ entry_slots (xs ++ x ∷ []))
      ≡ (if b then Some kind ∷ None ∷ entry_slots xs else Some kind ∷ entry_slots xs) ++ entry_slots (x ∷ [])
  by true e = ap (λ (l : List (Option Kind)). Some kind ∷ None ∷ l) e
  by false e = ap (λ (l : List (Option Kind)). Some kind ∷ l) e

-- ---- operands

pub stack_more : (xs : List (Option Kind)) (kind : Kind) (stack : List Kind) → stack_of xs ≡ Some stack → stack_of (xs ++ Some kind ∷ []) ≡ Some (stack ++ kind ∷ [])
stack_more [] kind stack e = let s : ◌≡◌ {A = List Kind} [] stack = cc in ap (λ (l : List Kind). Some (l ++ kind ∷ [])) s
stack_more (None ∷ xs) kind stack e = absurd cc
stack_more (Some k ∷ xs) kind stack e = by (stack_of xs) (λ s f. stack_more xs kind s f) refl e where
  by : (o : Option (List Kind)) → ((s : List Kind) → stack_of xs ≡ Some s → stack_of (xs ++ Some kind ∷ []) ≡ Some (s ++ kind ∷ [])) → stack_of xs ≡ o → with_kind (Some k) o ≡ Some stack → with_kind (Some k) (stack_of (xs ++ Some kind ∷ [])) ≡ Some (stack ++ kind ∷ [])
  by None rest f g = absurd cc
  by (Some s) rest f g =
      let more : stack_of (xs ++ Some kind ∷ []) ≡ Some (s ++ kind ∷ []) = rest s f in
      let same : k ∷ s ≡ stack = cc in
      ap (λ (o : Option (List Kind)). with_kind (Some k) o) more ∙ ap (λ (l : List Kind). Some (l ++ kind ∷ [])) same

-- an entry without a kind among them: no operands
pub stack_none : (xs : List (Option Kind)) (i : ℕ) → i < length xs → get_or xs i None ≡ None → stack_of xs ≡ None
stack_none [] i within e = absurd (omega arith)
stack_none (None ∷ xs) i within e = refl
stack_none (Some k ∷ xs) zero within e = absurd cc
stack_none (Some k ∷ xs) (suc i) within e = ap (λ (o : Option (List Kind)). with_kind (Some k) o) (stack_none xs i (omega arith) e)

-- ---- entries

module _ (code : Code) where
  pub entries_more : (xs : List VType) (t : VType) (kind : Option Kind) (more : List (Option Kind)) → entries_of code xs ≡ Some more → entry_of code t ≡ Of kind
      → entries_of code (xs ++ t ∷ []) ≡ Some (more ++ kind ∷ [])
  entries_more [] t kind more e f =
      let s : ◌≡◌ {A = List (Option Kind)} [] more = cc in
      ap (λ (x : Entry). with_entry x (Some [])) f ∙ ap (λ (l : List (Option Kind)). Some (l ++ kind ∷ [])) s
  entries_more (x ∷ xs) t kind more e f = by (entry_of code x) (entries_of code xs) (λ rest h. entries_more xs t kind rest h f) refl refl e where
    by : (a : Entry) (o : Option (List (Option Kind)))
        → ((rest : List (Option Kind)) → entries_of code xs ≡ Some rest → entries_of code (xs ++ t ∷ []) ≡ Some (rest ++ kind ∷ [])) → entry_of code x ≡ a → entries_of code xs ≡ o → with_entry a o ≡ Some more
        → with_entry (entry_of code x) (entries_of code (xs ++ t ∷ [])) ≡ Some (more ++ kind ∷ [])
    by NoEntry o next_of g h k = absurd cc
    by (Of own) None next_of g h k = absurd cc
    by (Of own) (Some rest) next_of g h k =
        let next : entries_of code (xs ++ t ∷ []) ≡ Some (rest ++ kind ∷ []) = next_of rest h in
        let same : own ∷ rest ≡ more = cc in
        ap (λ (a : Entry). with_entry a (entries_of code (xs ++ t ∷ []))) g ∙ ap (λ (o : Option (List (Option Kind))). with_entry (Of own) o) next
        ∙ ap (λ (l : List (Option Kind)). Some (l ++ kind ∷ [])) same

  with_none : (a : Entry) → with_entry a None ≡ None
  with_none (Of kind) = refl
  with_none NoEntry = refl

  pub entries_none : (xs : List VType) (i : ℕ) (d : VType) → i < length xs → entry_of code (get_or xs i d) ≡ NoEntry → entries_of code xs ≡ None
  entries_none [] i d within e = absurd (omega arith)
  entries_none (x ∷ xs) zero d within e = ap (λ (a : Entry). with_entry a (entries_of code xs)) e
  entries_none (x ∷ xs) (suc i) d within e =
      ap (λ (o : Option (List (Option Kind))). with_entry (entry_of code x) o) (entries_none xs i d (omega arith) e) ∙ with_none (entry_of code x)

-- ---- operands of types

pub no_operands : (reported : Option (List (Option Kind))) → reported ≡ None → None ≡ option_and_then stack_of reported
no_operands None e = refl
no_operands (Some more) e = absurd cc

pub some_operands : (reported : Option (List (Option Kind))) (more entries : List (Option Kind)) (stack : Option (List Kind)) → reported ≡ Some more → entries ≡ [] ++ more → stack ≡ stack_of entries
    → stack ≡ option_and_then stack_of reported
some_operands None more entries stack e f g = absurd cc
some_operands (Some own) more entries stack e f g = let same : own ≡ more = cc in g ∙ ap stack_of (f ∙ sym same)

-- ---- forms

-- of a form that keeps the local variables
pub kept_change : (reported : Option (List (Option Kind))) (stack : Option (List Kind)) (before : List (Option Kind)) → stack ≡ option_and_then stack_of reported
    → ChangesTo stack (with_stack before reported) before
kept_change None None before e = refl
kept_change None (Some s) before e = absurd cc
kept_change (Some own) None before e = sym e
kept_change (Some own) (Some s) before e = (record { locals = before; stack = own }, refl, refl, sym e)

pub appended : (reported : Option (List (Option Kind))) (more before new : List (Option Kind)) → reported ≡ Some more → new ≡ before ++ more → ChangesTo (Some []) (with_locals before reported) new
appended None more before new e f = absurd cc
appended (Some own) more before new e f =
    let same : own ≡ more = cc in
    (record { locals = before ++ own; stack = [] }, refl, ap (λ (l : List (Option Kind)). before ++ l) same ∙ sym f, refl)

pub not_appended : (reported : Option (List (Option Kind))) (before new : List (Option Kind)) → reported ≡ None → ChangesTo None (with_locals before reported) new
not_appended None before new e = refl
not_appended (Some own) before new e = absurd cc

pub full : (locals reported : Option (List (Option Kind))) (more new : List (Option Kind)) (stack : Option (List Kind)) → locals ≡ Some more → new ≡ [] ++ more → stack ≡ option_and_then stack_of reported
    → ChangesTo stack (full_entries locals reported) new
full None reported more new stack e f g = absurd cc
full (Some own) None more new None e f g = refl
full (Some own) None more new (Some s) e f g = absurd cc
full (Some own) (Some t) more new None e f g = sym g
full (Some own) (Some t) more new (Some s) e f g = let same : own ≡ more = cc in (record { locals = own; stack = t }, refl, same ∙ sym f, sym g)

pub not_full : (locals reported : Option (List (Option Kind))) (new : List (Option Kind)) → locals ≡ None → ChangesTo None (full_entries locals reported) new
not_full None reported new e = refl
not_full (Some own) reported new e = absurd cc

pub chopped : (n : ℕ) (before new : List (Option Kind)) (stack : List Kind) → n ≤ length before → new ≡ take (length before - n) before → stack ≡ []
    → ChangesTo (Some stack) (if nat_le n (length before) then Some (record { locals = take (length before - n) before; stack = [] }) else None) new
chopped n before new stack within e f =
    let a : nat_le n (length before) ≡ true = grind (arith, nat_tests) in
    (record { locals = take (length before - n) before; stack = [] }, rw a refl, sym e, ap (λ (l : List Kind). Some l) (sym f))
