-- What is known of an answer, where there was memory for it.
use Rattle.std.specs.Prelude.{slice_range, nat_le, ◌&&◌, if◌then◌else◌}
use Rattle.std.proofs.lemmas.Bool.{ne_eqb, le-leb, leb-true, both_ways}
use Rattle.dj_names.specs.declared.run.Raised.TheVariants as raises
use Rattle.std.proofs.Common.{◌≡◌, ℕ, ◌≤◌, ℤ, pos, negsuc, Bool, true, false, arith, length, List, [], ◌∷◌, ◌++◌, Option, Some, None, Result, Ok, Err, IfOk, IfSome, refl, ap, sym, subst, ◌∙◌}
use Rattle.dj_names.specs.declared.descriptor.Ty.{Ty}
use Rattle.std.specs.declared.alloc.AllocError.{AllocError}
use Rattle.dj_names.specs.declared.native.NativeId.{NativeId}
use Rattle.dj_names.specs.declared.run.Value.{Value}
use Rattle.dj_heap.specs.Heaps.{LimitedHeap}
use Rattle.dj_model.specs.trusted.Types.{Prefix}
use Rattle.dj_model.specs.trusted.Program.{Program}
use Rattle.dj_model.specs.trusted.Natives as model
use Rattle.dj_model.specs.trusted.Natives.{Seen, answer}
use Rattle.dj_natives.specs.declared.answer.Answer as calls
use Rattle.dj_natives.specs.Answers.{answered_by, IsAppended, Says, is_answered, is_on_objects}
use Rattle.dj_natives.specs.Calls.{seen_of}
use Rattle.dj_natives.specs.Seen.{units_at, is_text_at, field_at, elements_at, place_within}
use Rattle.dj_natives.proofs.SeenFacts.{units_alike, is_text_alike, field_alike, elements_alike}

pub reported_some : (view : Option model.Answer) (x : model.Answer) → view ≡ Some x → IfSome view (λ a. x ≡ a)
reported_some view x e = subst (λ v. IfSome v (λ a. x ≡ a)) (sym e) refl

pub reported_as : (view : Option model.Answer) (x y : model.Answer) → x ≡ y → IfSome view (λ a. y ≡ a) → IfSome view (λ a. x ≡ a)
reported_as view x y e reported = subst (λ z. IfSome view (λ a. z ≡ a)) (sym e) reported

pub reported_by : (f : List ℕ → model.Answer) (r : Result (List ℕ) AllocError) (us : List ℕ) (view : Option model.Answer) → view ≡ answered_by f r → IfOk r (λ u. u ≡ us)
    → IfSome view (λ a. f us ≡ a)
reported_by f (Ok u) us view e same = subst (λ v. IfSome v (λ a. f us ≡ a)) (sym e) (ap f (sym same))
reported_by f (Err error) us view e same = subst (λ v. IfSome v (λ a. f us ≡ a)) (sym e) tt

pub reported_appended : (h : LimitedHeap) (r : ℕ) (more : Result (List ℕ) AllocError) (us : List ℕ) (view : Option model.Answer) → IsAppended h r more view → IfOk more (λ u. u ≡ us)
    → IfSome view (λ a. model.KeepsText r (units_at h (field_at h r 0) ++ us) ≡ a)
reported_appended h r (Ok u) us view reported same = reported_as view (model.KeepsText r (units_at h (field_at h r 0) ++ us)) (model.KeepsText r (units_at h (field_at h r 0) ++ u))
    (ap (λ l. model.KeepsText r (units_at h (field_at h r 0) ++ l)) (sym same)) reported
reported_appended h r (Err error) us view none same = subst (λ v. IfSome v (λ a. model.KeepsText r (units_at h (field_at h r 0) ++ us) ≡ a)) (sym none) tt

-- the answer of a method that is this one
pub says : (id known : NativeId) (heap : Seen) (args : List Value) (view : Option model.Answer) (x : model.Answer) → id ≡ known → answer known heap args ≡ x
    → IfSome view (λ a. x ≡ a) → IfSome view (λ a. answer id heap args ≡ a)
says id known heap args view x is same reported = reported_as view (answer id heap args) x (ap (λ i. answer i heap args) is ∙ same) reported

-- ---- texts that are made

pub joined_made : (r other : ℕ) (us vs : List ℕ) → (other ≡ 0 → ⊥) → (length vs ≡ 0 → ⊥) → model.unless_null other (model.joined_text r us vs) ≡ model.MakesText (us ++ vs)
joined_made r other us [] apart some = absurd (some refl)
joined_made r other us (v ∷ vs) apart some = ap (λ t. if t then model.Raises raises.NullPointer else model.MakesText (us ++ v ∷ vs)) (ne_eqb other 0 apart)

pub part_made : (us : List ℕ) (from to : ℕ) → from ≤ to → to ≤ length us → model.part_between us (pos from) (pos to) ≡ model.MakesText (slice_range us from to)
part_made us from to up within =
    ap (λ t. if (t && nat_le to (length us)) then model.MakesText (slice_range us from to) else model.Raises raises.StringIndexOutOfBounds) (le-leb from to up)
    ∙ ap (λ t. if t then model.MakesText (slice_range us from to) else model.Raises raises.StringIndexOutOfBounds) (le-leb to (length us) within)

pub not_null_made : (r : ℕ) (x : model.Answer) → (r ≡ 0 → ⊥) → model.unless_null r x ≡ x
not_null_made r x apart = ap (λ t. if t then model.Raises raises.NullPointer else x) (ne_eqb r 0 apart)

-- ---- what the model sees of a heap, by numbers that are the arguments

module _ (program : Program) (prefix : Prefix) (types : List Ty) (h : LimitedHeap) (r t : ℕ) (e : t ≡ r) where
  pub seen_units : (seen_of program prefix types h).units r ≡ units_at h t
  seen_units = units_alike types h r ∙ ap (units_at h) (sym e)

  pub seen_is_text : (seen_of program prefix types h).is_text r ≡ is_text_at h t
  seen_is_text = is_text_alike types h r ∙ ap (is_text_at h) (sym e)

  pub seen_elements : (seen_of program prefix types h).elements r ≡ elements_at h t
  seen_elements = elements_alike types h r ∙ ap (elements_at h) (sym e)

  -- the units of a builder
  pub seen_builder : model.builder_units (seen_of program prefix types h) r ≡ units_at h (field_at h t 0)
  seen_builder =
      units_alike types h ((seen_of program prefix types h).field r 0)
      ∙ ap (units_at h) (field_alike types h r 0 ∙ ap (λ k. field_at h k 0) (sym e))

pub reported_flip : (view : Option model.Answer) (x : model.Answer) → IfSome view (λ a. a ≡ x) → IfSome view (λ a. x ≡ a)
reported_flip None x reported = tt
reported_flip (Some a) x reported = sym reported

-- ---- places in texts

found_by : (b : Bool) (n k : ℕ) → (if b then Some n else None) ≡ Some k → n ≡ k
found_by true n k e = cc
found_by false n k e = absurd cc

left_by : (b : Bool) (n : ℕ) → (if b then Some n else None) ≡ None → b ≡ false
left_by true n e = absurd cc
left_by false n e = refl

pub place_found : (count : ℕ) (z : ℤ) (k : ℕ) → place_within count z ≡ Some k → z ≡ pos k
place_found count (pos n) k e = ap pos (found_by (nat_le n count) n k e)
place_found count (negsuc n) k e = absurd cc

both_not : (a b : Bool) → (a ≡ true → b ≡ true → ⊥) → (a && b) ≡ false
both_not true true never = absurd (never refl refl)
both_not true false never = refl
both_not false b never = refl

outside : (us : List ℕ) (from to : ℕ) → (nat_le from to ≡ true → nat_le to (length us) ≡ true → ⊥)
    → model.part_between us (pos from) (pos to) ≡ model.Raises raises.StringIndexOutOfBounds
outside us from to never =
    ap (λ t. if t then model.MakesText (slice_range us from to) else model.Raises raises.StringIndexOutOfBounds) (both_not (nat_le from to) (nat_le to (length us)) never)

pub no_from : (us : List ℕ) (from to : ℤ) → place_within (length us) from ≡ None → model.part_between us from to ≡ model.Raises raises.StringIndexOutOfBounds
no_from us (pos f) (pos t) e = outside us f t (λ up within.
    both_ways (nat_le f (length us)) (left_by (nat_le f (length us)) f e)
    (le-leb f (length us) (omega (arith, leb-true f t up, leb-true t (length us) within))))
no_from us (pos f) (negsuc t) e = refl
no_from us (negsuc f) (pos t) e = refl
no_from us (negsuc f) (negsuc t) e = refl

pub no_to : (us : List ℕ) (from : ℕ) (to : ℤ) → place_within (length us) to ≡ None → model.part_between us (pos from) to ≡ model.Raises raises.StringIndexOutOfBounds
no_to us from (pos t) e = outside us from t (λ up within. both_ways (nat_le t (length us)) (left_by (nat_le t (length us)) t e) within)
no_to us from (negsuc t) e = refl

-- ---- the last of the groups

pub last_reported : (id : NativeId) (heap : Seen) (args : List Value) (result : Option calls.Answer) → (is_on_objects id ≡ false → is_answered id ≡ false)
    → Says is_on_objects id heap args result → Says is_answered id heap args result
last_reported id heap args None rest reported = rest reported
last_reported id heap args (Some a) rest reported = reported
