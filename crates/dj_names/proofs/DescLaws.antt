-- A descriptor that is read is spelled so, and a descriptor that is spelled so is read.
use Rattle.std.proofs.Common.{◌≡◌, ℕ, zero, suc, ◌+◌, ◌-◌, ◌<◌, ◌≤◌, Bool, true, false, cond, leb, eqb, List, [], ◌∷◌, ◌++◌, length, get_or, Option, Some, None, Result, Ok, Err, refl, sym, ap, subst, ◌∙◌, append_assoc, arith, inl, inr, sum_by}
use Rattle.std.specs.Prelude.{option_map, is_some, IfSome, IfOk, IsErrOf}
use Rattle.std.proofs.lemmas.Bool.{leb-true, le-leb, lt-leb, eqb-true, eqb-false, ne_eqb}
use Rattle.std.proofs.lemmas.List.{append-nil, length-append}
use Rattle.std.proofs.lemmas.List.Sums.{sum_by-cons}
use Rattle.std.specs.List.{flat_map, AllByRecursion}
use Rattle.dj_cursor.specs.trusted.Options.{◌>>=◌}
use Rattle.dj_cursor.specs.Options.{FailsRead, GivesRead}
use Rattle.dj_cursor.proofs.Options.{bind_some, some_is, chosen, went_on}
use Rattle.dj_names.specs.declared.descriptor.Ty.{Ty}
use Rattle.dj_names.specs.declared.descriptor.Desc.{Desc}
use Rattle.dj_names.specs.declared.descriptor.Desc.TheVariants as descs
use Rattle.dj_names.specs.declared.read.DescError.{DescError}
use Rattle.dj_names.specs.declared.read.DescError.TheVariants as errors
use Rattle.dj_names.specs.trusted.Descriptors.{type_text, return_text, desc_text, type_slots, slots_of, IsType, Describes, IsFieldDescriptor, IsMethodDescriptor, IsArrayDescriptor}
use Rattle.dj_names.specs.trusted.DescReading.{type_read, params_read, ended, field_read, return_read, method_read, opens, desc_read}
use Rattle.dj_names.specs.DescReading.{is_memory}
use Rattle.dj_names.proofs.TypeLaws.{type_takes, type_again, type_begins}

-- ---- parameters

slots-cons : (ty : Ty) (ps : List Ty) → sum_by type_slots (ty ∷ ps) ≡ type_slots ty + sum_by type_slots ps
slots-cons ty ps = sum_by-cons type_slots ty ps

abbrev then_more : Ty → Option (List Ty × List ℕ) → Option (List Ty × List ℕ)
then_more ty o = o >>= λ y. Some (ty ∷ y.0, y.1)

abbrev goes_on : ℕ → ℕ → Ty × List ℕ → Option (List Ty × List ℕ)
goes_on n s x = cond (leb (s + type_slots x.0) 255) (params_read n (s + type_slots x.0) x.1 >>= λ y. Some (x.0 ∷ y.0, y.1)) None

param_step : (n s b : ℕ) (more : List ℕ) (ty : Ty) (after : List ℕ) → (b ≡ 41 → ⊥) → type_read (b ∷ more) ≡ Some (ty, after) → s + type_slots ty ≤ 255
    → params_read (suc n) s (b ∷ more) ≡ then_more ty (params_read n (s + type_slots ty) after)
unfolding params_read
param_step n s b more ty after other e few =
    ap (λ (t : Bool). cond t (Some ([], more)) (type_read (b ∷ more) >>= goes_on n s)) (ne_eqb b 41 other)
    ∙ ap (λ (o : Option (Ty × List ℕ)). o >>= goes_on n s) e
    ∙ ap (λ (t : Bool). cond t (then_more ty (params_read n (s + type_slots ty) after)) None) (le-leb (s + type_slots ty) 255 few)

pub record Params (s : ℕ) (bytes : List ℕ) (x : List Ty × List ℕ) : Type 0 where
  pub parts : bytes ≡ flat_map type_text x.0 ++ (41 ∷ x.1)
  pub types : AllByRecursion IsType x.0
  pub few : s ≤ 255 → s + sum_by type_slots x.0 ≤ 255

params_take : (n s : ℕ) (bytes : List ℕ) (x : List Ty × List ℕ) → params_read n s bytes ≡ Some x → Params s bytes x
unfolding params_read
params_take zero s bytes x e = absurd cc
params_take (suc n) s [] x e = absurd cc
params_take (suc n) s (b ∷ more) x e =
    elim (chosen (eqb b 41) (Some ([], more)) (type_read (b ∷ more) >>= goes_on n s) (Some x) e) [
      | inl h ↦
          let made : List Ty × List ℕ = ([], more) in
          subst (λ (y : List Ty × List ℕ). Params s (b ∷ more) y) (some_is made x h.1) (record { parts = ap (λ (c : ℕ). c ∷ more) (eqb-true b 41 h.0); types = tt; few = λ k. omega arith })
      | inr h ↦
          let a = bind_some (type_read (b ∷ more)) (goes_on n s) x h.1 in
          let g = went_on (leb (s + type_slots a.0.0) 255) (then_more a.0.0 (params_read n (s + type_slots a.0.0) a.0.1)) x a.2 in
          let y = bind_some (params_read n (s + type_slots a.0.0) a.0.1) (λ z. Some (a.0.0 ∷ z.0, z.1)) x g.1 in
          let made : List Ty × List ℕ = (a.0.0 ∷ y.0.0, y.0.1) in
          let t = type_takes (b ∷ more) a.0 a.1 in
          let r = params_take n (s + type_slots a.0.0) a.0.1 y.0 y.1 in
          let room : s + type_slots a.0.0 ≤ 255 = leb-true (s + type_slots a.0.0) 255 g.0 in
          let all : s + type_slots a.0.0 + sum_by type_slots y.0.0 ≤ 255 = r.few room in
          let text : b ∷ more ≡ (type_text a.0.0 ++ flat_map type_text y.0.0) ++ (41 ∷ y.0.1) =
          t.0 ∙ ap (λ (u : List ℕ). type_text a.0.0 ++ u) r.parts ∙ sym (append_assoc (type_text a.0.0) (flat_map type_text y.0.0) (41 ∷ y.0.1)) in
          subst (λ (z : List Ty × List ℕ). Params s (b ∷ more) z) (some_is made x y.2) (record { parts = text; types = (t.1, r.types); few = λ k. omega (arith, all, slots-cons a.0.0 y.0.0) })
    ]

params_again : (ps : List Ty) (n s : ℕ) (rest : List ℕ) → AllByRecursion IsType ps → length ps < n → s + sum_by type_slots ps ≤ 255 → params_read n s (flat_map type_text ps ++ (41 ∷ rest)) ≡ Some (ps, rest)
unfolding params_read
params_again ps zero s rest types lt few = absurd (omega arith)
params_again [] (suc n) s rest types lt few = refl
params_again (ty ∷ ps) (suc n) s rest types lt few =
    let after : List ℕ = flat_map type_text ps ++ (41 ∷ rest) in
    let begins = type_begins ty (flat_map type_text ps ++ (41 ∷ rest)) in
    let regrouped : (type_text ty ++ flat_map type_text ps) ++ (41 ∷ rest) ≡ begins.first ∷ begins.more = append_assoc (type_text ty) (flat_map type_text ps) (41 ∷ rest) ∙ begins.is in
    let read : type_read (begins.first ∷ begins.more) ≡ Some (ty, flat_map type_text ps ++ (41 ∷ rest)) = ap type_read (sym begins.is) ∙ type_again ty (flat_map type_text ps ++ (41 ∷ rest)) types.0 in
    ap (params_read (suc n) s) regrouped
    ∙ param_step n s begins.first begins.more ty (flat_map type_text ps ++ (41 ∷ rest)) (eqb-false begins.first 41 begins.no_close) read (omega (arith, few, slots-cons ty ps))
    ∙ ap (then_more ty) (params_again ps n (s + type_slots ty) rest types.1 (omega arith) (omega (arith, few, slots-cons ty ps)))

types_long : (ps : List Ty) → length ps ≤ length (flat_map type_text ps)
types_long [] = omega arith
types_long (ty ∷ ps) =
    let begins = type_begins ty (flat_map type_text ps) in
    let own = type_begins ty [] in
    let one : 1 ≤ length (type_text ty) = omega (arith, length-append (type_text ty) (flat_map {X = Ty} {A = ℕ} type_text []), ap length own.is) in
    omega (arith, length-append (type_text ty) (flat_map type_text ps), types_long ps)

-- ---- a step of the loops over the parameters

pub param_goes_on : (count i s : ℕ) (bytes : List ℕ) (ty : Ty) (after : List ℕ) → i < count → 1 ≤ length bytes → (get_or bytes 0 0 ≡ 41 → ⊥) → type_read bytes ≡ Some (ty, after) → s + type_slots ty ≤ 255
    → params_read (count - i) s bytes ≡ then_more ty (params_read (count - (i + 1)) (s + type_slots ty) after)
param_goes_on count i s [] ty after lt some other e few = absurd (omega arith)
param_goes_on count i s (b ∷ more) ty after lt some other e few =
    let k : count - i ≡ suc (count - (i + 1)) = omega arith in
    ap (λ (n : ℕ). params_read n s (b ∷ more)) k ∙ param_step (count - (i + 1)) s b more ty after other e few

abbrev pub after_all : Option (List Ty × List ℕ) → Option (List ℕ)
after_all o = option_map (λ (x : List Ty × List ℕ). x.1) o

after_more : (ty : Ty) (o : Option (List Ty × List ℕ)) → after_all (then_more ty o) ≡ after_all o
after_more ty (Some x) = refl
after_more ty None = refl

pub walk_goes_on : (count i s : ℕ) (bytes : List ℕ) (ty : Ty) (after : List ℕ) → i < count → 1 ≤ length bytes → (get_or bytes 0 0 ≡ 41 → ⊥) → type_read bytes ≡ Some (ty, after) → s + type_slots ty ≤ 255
    → after_all (params_read (count - (i + 1)) (s + type_slots ty) after) ≡ after_all (params_read (count - i) s bytes)
walk_goes_on count i s bytes ty after lt some other e few =
    sym (after_more ty (params_read (count - (i + 1)) (s + type_slots ty) after)) ∙ ap after_all (sym (param_goes_on count i s bytes ty after lt some other e few))

-- the parameters before, and those that are read
abbrev pub with_prefix : List Ty → Option (List Ty × List ℕ) → Option (List Ty × List ℕ)
with_prefix prefix o = o >>= λ y. Some (prefix ++ y.0, y.1)

prefix_more : (prefix : List Ty) (ty : Ty) (o : Option (List Ty × List ℕ)) → with_prefix prefix (then_more ty o) ≡ with_prefix (prefix ++ ty ∷ []) o
prefix_more prefix ty (Some x) = ap (λ (ps : List Ty). Some (ps, x.1)) (sym (append_assoc prefix (ty ∷ []) x.0))
prefix_more prefix ty None = refl

pub read_goes_on : (prefix : List Ty) (count i s : ℕ) (bytes : List ℕ) (ty : Ty) (after : List ℕ) → i < count → 1 ≤ length bytes → (get_or bytes 0 0 ≡ 41 → ⊥) → type_read bytes ≡ Some (ty, after) → s + type_slots ty ≤ 255
    → with_prefix (prefix ++ ty ∷ []) (params_read (count - (i + 1)) (s + type_slots ty) after) ≡ with_prefix prefix (params_read (count - i) s bytes)
read_goes_on prefix count i s bytes ty after lt some other e few =
    sym (prefix_more prefix ty (params_read (count - (i + 1)) (s + type_slots ty) after)) ∙ ap (with_prefix prefix) (sym (param_goes_on count i s bytes ty after lt some other e few))

abbrev none_follow : Option (List Ty × List ℕ)
none_follow = None

pub read_closes : (prefix : List Ty) (count i s : ℕ) (bytes after : List ℕ) (total : Option (List Ty × List ℕ)) → i < count → bytes ≡ 41 ∷ after → with_prefix prefix (params_read (count - i) s bytes) ≡ total → total ≡ Some (prefix, after)
unfolding params_read
read_closes prefix count i s bytes after total lt is so_far =
    let k : count - i ≡ suc (count - (i + 1)) = omega arith in
    sym so_far
    ∙ ap (λ (n : ℕ). with_prefix prefix (params_read n s bytes)) k
    ∙ ap (λ (u : List ℕ). with_prefix prefix (params_read (suc (count - (i + 1))) s u)) is
    ∙ ap (λ (ps : List Ty). Some (ps, after)) (append-nil prefix)

no_step : (n s : ℕ) (bytes : List ℕ) → (get_or bytes 0 0 ≡ 41 → ⊥) → type_read bytes ≡ None → params_read (suc n) s bytes ≡ None
unfolding params_read
no_step n s [] other e = refl
no_step n s (b ∷ more) other e =
    ap (λ (t : Bool). cond t (Some ([], more)) (type_read (b ∷ more) >>= goes_on n s)) (ne_eqb b 41 other)
    ∙ ap (λ (o : Option (Ty × List ℕ)). o >>= goes_on n s) e

pub read_fails : (e : DescError) (prefix : List Ty) (count i s : ℕ) (bytes : List ℕ) (total : Option (List Ty × List ℕ)) → i < count → (get_or bytes 0 0 ≡ 41 → ⊥) → FailsRead (is_memory e) (type_read bytes) → with_prefix prefix (params_read (count - i) s bytes) ≡ total → FailsRead (is_memory e) total
read_fails errors.Memory prefix count i s bytes total lt other h so_far = tt
read_fails errors.NotADescriptor prefix count i s bytes total lt other h so_far =
    let k : count - i ≡ suc (count - (i + 1)) = omega arith in
    sym so_far ∙ ap (λ (n : ℕ). with_prefix prefix (params_read n s bytes)) k ∙ ap (with_prefix prefix) (no_step (count - (i + 1)) s bytes other h)

full_step : (n s : ℕ) (bytes : List ℕ) (ty : Ty) (after : List ℕ) → (get_or bytes 0 0 ≡ 41 → ⊥) → type_read bytes ≡ Some (ty, after) → 255 < s + type_slots ty → params_read (suc n) s bytes ≡ None
unfolding params_read
full_step n s [] ty after other e full = refl
full_step n s (b ∷ more) ty after other e full =
    ap (λ (t : Bool). cond t (Some ([], more)) (type_read (b ∷ more) >>= goes_on n s)) (ne_eqb b 41 other)
    ∙ ap (λ (o : Option (Ty × List ℕ)). o >>= goes_on n s) e
    ∙ ap (λ (t : Bool). cond t (then_more ty (params_read n (s + type_slots ty) after)) none_follow) (lt-leb (s + type_slots ty) 255 full)

pub read_is_full : (prefix : List Ty) (count i s : ℕ) (bytes : List ℕ) (ty : Ty) (after : List ℕ) (total : Option (List Ty × List ℕ)) → i < count → (get_or bytes 0 0 ≡ 41 → ⊥) → type_read bytes ≡ Some (ty, after) → 255 < s + type_slots ty → with_prefix prefix (params_read (count - i) s bytes) ≡ total → total ≡ None
read_is_full prefix count i s bytes ty after total lt other e full so_far =
    let k : count - i ≡ suc (count - (i + 1)) = omega arith in
    sym so_far ∙ ap (λ (n : ℕ). with_prefix prefix (params_read n s bytes)) k ∙ ap (with_prefix prefix) (full_step (count - (i + 1)) s bytes ty after other e full)

-- a type has a first byte
type_some : (bytes : List ℕ) (ty : Ty) (after : List ℕ) → type_read bytes ≡ Some (ty, after) → 1 ≤ length bytes
type_some [] ty after e =
    let t = type_takes [] (ty, after) e in
    let begins = type_begins ty after in
    let bad : [] ≡ begins.first ∷ begins.more = t.0 ∙ begins.is in
    absurd cc
type_some (b ∷ more) ty after e = omega arith

pub read_one_more : (prefix : List Ty) (count i s : ℕ) (bytes : List ℕ) (ty : Ty) (after : List ℕ) (total : Option (List Ty × List ℕ)) → i < count → (get_or bytes 0 0 ≡ 41 → ⊥) → type_read bytes ≡ Some (ty, after) → s + type_slots ty ≤ 255
    → with_prefix prefix (params_read (count - i) s bytes) ≡ total → with_prefix (prefix ++ ty ∷ []) (params_read (count - (i + 1)) (s + type_slots ty) after) ≡ total
read_one_more prefix count i s bytes ty after total lt other e few so_far =
    read_goes_on prefix count i s bytes ty after lt (type_some bytes ty after e) other e few ∙ so_far

-- ---- fields and returns

ended_some : {A : Type 0} (x y : A) (bytes : List ℕ) → ended x bytes ≡ Some y → (bytes ≡ []) × (x ≡ y)
ended_some x y [] e = (refl, some_is x y e)
ended_some x y (b ∷ more) e = absurd cc

pub field_takes : (text : List ℕ) (ty : Ty) → field_read text ≡ Some ty → Describes text (descs.Field ty)
unfolding field_read
field_takes text ty e =
    let a = bind_some (type_read text) (λ x. ended x.0 x.1) ty e in
    let g = ended_some a.0.0 ty a.0.1 a.2 in
    let t = type_takes text a.0 a.1 in
    let whole : text ≡ type_text a.0.0 = t.0 ∙ ap (λ (r : List ℕ). type_text a.0.0 ++ r) g.0 ∙ append-nil (type_text a.0.0) in
    subst (λ (x : Ty). Describes text (descs.Field x)) g.1 (record { text_is = whole; valid = t.1 })

text_again : (ty : Ty) → IsType ty → field_read (type_text ty) ≡ Some ty
unfolding field_read
text_again ty t =
    ap (λ (u : List ℕ). type_read u >>= λ x. ended x.0 x.1) (sym (append-nil (type_text ty)))
    ∙ ap (λ (o : Option (Ty × List ℕ)). o >>= λ x. ended x.0 x.1) (type_again ty [] t)

pub field_again : (text : List ℕ) (ty : Ty) → Describes text (descs.Field ty) → field_read text ≡ Some ty
field_again text ty d = ap field_read d.text_is ∙ text_again ty d.valid

return_takes : (text : List ℕ) (ret : Option Ty) → return_read text ≡ Some ret → (text ≡ return_text ret) × IfSome ret IsType
unfolding return_read
return_takes [] ret e = absurd cc
return_takes (b ∷ more) ret e =
    let nothing : Option Ty = None in
    elim (chosen (eqb b 86) (ended nothing more) (field_read (b ∷ more) >>= λ ty. Some (Some ty)) (Some ret) e) [
      | inl h ↦
          let g = ended_some nothing ret more h.1 in
          subst (λ (r : Option Ty). (b ∷ more ≡ return_text r) × IfSome r IsType) g.1 (ap (λ (c : ℕ). c ∷ more) (eqb-true b 86 h.0) ∙ ap (λ (t : List ℕ). 86 ∷ t) g.0, tt)
      | inr h ↦
          let a = bind_some (field_read (b ∷ more)) (λ ty. Some (Some ty)) ret h.1 in
          let made : Option Ty = Some a.0 in
          let d = field_takes (b ∷ more) a.0 a.1 in
          subst (λ (r : Option Ty). (b ∷ more ≡ return_text r) × IfSome r IsType) (some_is made ret a.2) (d.text_is, d.valid)
    ]

return_again : (ret : Option Ty) → IfSome ret IsType → return_read (return_text ret) ≡ Some ret
unfolding return_read
return_again None t = refl
return_again (Some ty) t =
    let nothing : Option Ty = None in
    let begins = type_begins ty [] in
    let is : type_text ty ≡ begins.first ∷ begins.more = sym (append-nil (type_text ty)) ∙ begins.is in
    ap return_read is
    ∙ ap (λ (x : Bool). cond x (ended nothing begins.more) (field_read (begins.first ∷ begins.more) >>= λ y. Some (Some y))) begins.no_void
    ∙ ap (λ (u : List ℕ). field_read u >>= λ y. Some (Some y)) (sym is)
    ∙ ap (λ (o : Option Ty). o >>= λ y. Some (Some y)) (text_again ty t)

-- ---- methods

method_text : (ps : List Ty) (ret : Option Ty) → desc_text (descs.Method ps ret) ≡ 40 ∷ (flat_map type_text ps ++ (41 ∷ return_text ret))
method_text ps ret = ap (λ (t : List ℕ). 40 ∷ t) (append_assoc (flat_map type_text ps) (41 ∷ []) (return_text ret))

pub method_takes : (text : List ℕ) (x : List Ty × Option Ty) → method_read text ≡ Some x → Describes text (descs.Method x.0 x.1)
unfolding method_read
method_takes [] x e = absurd cc
method_takes (b ∷ more) x e =
    let g = went_on (eqb b 40) (params_read (length more) 0 more >>= λ y. return_read y.1 >>= λ ret. Some (y.0, ret)) x e in
    let a = bind_some (params_read (length more) 0 more) (λ y. return_read y.1 >>= λ ret. Some (y.0, ret)) x g.1 in
    let r = bind_some (return_read a.0.1) (λ ret. Some (a.0.0, ret)) x a.2 in
    let p = params_take (length more) 0 more a.0 a.1 in
    let t = return_takes a.0.1 r.0 r.1 in
    let made : List Ty × Option Ty = (a.0.0, r.0) in
    let text : b ∷ more ≡ desc_text (descs.Method a.0.0 r.0) =
    ap (λ (c : ℕ). c ∷ more) (eqb-true b 40 g.0) ∙ ap (λ (u : List ℕ). 40 ∷ u) p.parts ∙ ap (λ (u : List ℕ). 40 ∷ (flat_map type_text a.0.0 ++ (41 ∷ u))) t.0 ∙ sym (method_text a.0.0 r.0) in
    let few : 0 + sum_by type_slots a.0.0 ≤ 255 = p.few (omega arith) in
    subst (λ (y : List Ty × Option Ty). Describes (b ∷ more) (descs.Method y.0 y.1)) (some_is made x r.2) (record { text_is = text; valid = (p.types, t.1, omega arith) })

pub method_again : (text : List ℕ) (ps : List Ty) (ret : Option Ty) → Describes text (descs.Method ps ret) → method_read text ≡ Some (ps, ret)
unfolding method_read
method_again text ps ret d =
    let more : List ℕ = flat_map type_text ps ++ (41 ∷ return_text ret) in
    let long : length ps < length (flat_map type_text ps ++ (41 ∷ return_text ret)) = omega (arith, length-append (flat_map type_text ps) (41 ∷ return_text ret), types_long ps) in
    let few : 0 + sum_by type_slots ps ≤ 255 = omega (arith, d.valid.2) in
    ap method_read (d.text_is ∙ method_text ps ret)
    ∙ ap (λ (o : Option (List Ty × List ℕ)). o >>= λ y. return_read y.1 >>= λ r. Some (y.0, r)) (params_again ps (length (flat_map type_text ps ++ (41 ∷ return_text ret))) 0 (return_text ret) d.valid.0 long few)
    ∙ ap (λ (o : Option (Option Ty)). o >>= λ r. Some (ps, r)) (return_again ret d.valid.1)

-- ---- the tests

pub some_there : {A : Type 0} (o : Option A) → is_some o ≡ true → (x : A) × (o ≡ Some x)
some_there (Some x) e = (x, refl)
some_there None e = absurd cc

pub field_from_test : (text : List ℕ) → is_some (field_read text) ≡ true → IsFieldDescriptor text
field_from_test text e = let x = some_there (field_read text) e in (x.0, field_takes text x.0 x.1)

pub test_from_field : (text : List ℕ) → IsFieldDescriptor text → is_some (field_read text) ≡ true
test_from_field text d = ap is_some (field_again text d.0 d.1)

pub method_from_test : (text : List ℕ) → is_some (method_read text) ≡ true → IsMethodDescriptor text
method_from_test text e = let x = some_there (method_read text) e in (x.0.0, x.0.1, method_takes text x.0 x.1)

pub test_from_method : (text : List ℕ) → IsMethodDescriptor text → is_some (method_read text) ≡ true
test_from_method text d = ap is_some (method_again text d.0 d.1 d.2)

abbrev pub dims_of : Option Ty → Option ℕ
dims_of o = option_map (λ (ty : Ty). ty.dims) o

dims_there : (o : Option Ty) (n : ℕ) → Some n ≡ dims_of o → (ty : Ty) × (o ≡ Some ty) × (n ≡ ty.dims)
dims_there (Some ty) n e = (ty, refl, some_is n ty.dims e)
dims_there None n e = absurd cc

pub array_from_dims : (text : List ℕ) (n : ℕ) → Some n ≡ dims_of (field_read text) → 1 ≤ n → IsArrayDescriptor text
array_from_dims text n e some =
    let x = dims_there (field_read text) n e in
    (x.0, omega (arith, x.2), field_takes text x.0 x.1)

pub dims_from_array : (text : List ℕ) (n : ℕ) → Some n ≡ dims_of (field_read text) → IsArrayDescriptor text → 1 ≤ n
dims_from_array text n e d =
    let same : n ≡ d.0.dims = some_is n d.0.dims (e ∙ ap dims_of (field_again text d.0 d.2)) in
    omega (arith, same, d.1)

pub no_array : (text : List ℕ) → None ≡ dims_of (field_read text) → IsArrayDescriptor text → ⊥
no_array text e d = let bad : None ≡ Some d.0.dims = e ∙ ap dims_of (field_again text d.0 d.2) in absurd cc

-- ---- descriptors

pub desc_takes : (text : List ℕ) (d : Desc) → desc_read text ≡ Some d → Describes text d
unfolding desc_read
desc_takes text d e =
    elim (chosen (opens text) (method_read text >>= λ m. Some (descs.Method m.0 m.1)) (field_read text >>= λ ty. Some (descs.Field ty)) (Some d) e) [
      | inl h ↦
          let a = bind_some (method_read text) (λ m. Some (descs.Method m.0 m.1)) d h.1 in
          subst (λ (x : Desc). Describes text x) (some_is (descs.Method a.0.0 a.0.1) d a.2) (method_takes text a.0 a.1)
      | inr h ↦
          let a = bind_some (field_read text) (λ ty. Some (descs.Field ty)) d h.1 in
          subst (λ (x : Desc). Describes text x) (some_is (descs.Field a.0) d a.2) (field_takes text a.0 a.1)
    ]

pub desc_again : (text : List ℕ) (d : Desc) → Describes text d → desc_read text ≡ Some d
unfolding desc_read
desc_again text (descs.Field ty) d =
    let begins = type_begins ty [] in
    let is : text ≡ begins.first ∷ begins.more = d.text_is ∙ sym (append-nil (type_text ty)) ∙ begins.is in
    let shut : opens text ≡ false = ap opens is ∙ begins.no_open in
    ap (λ (t : Bool). cond t (method_read text >>= λ m. Some (descs.Method m.0 m.1)) (field_read text >>= λ x. Some (descs.Field x))) shut
    ∙ ap (λ (o : Option Ty). o >>= λ x. Some (descs.Field x)) (field_again text ty d)
desc_again text (descs.Method ps ret) d =
    let open_is : opens text ≡ true = ap opens (d.text_is ∙ method_text ps ret) in
    ap (λ (t : Bool). cond t (method_read text >>= λ m. Some (descs.Method m.0 m.1)) (field_read text >>= λ x. Some (descs.Field x))) open_is
    ∙ ap (λ (o : Option (List Ty × Option Ty)). o >>= λ m. Some (descs.Method m.0 m.1)) (method_again text ps ret d)

-- a text describes one descriptor only
pub described_once : (text : List ℕ) (a b : Desc) → Describes text a → Describes text b → a ≡ b
described_once text a b p q = some_is a b (sym (desc_again text a p) ∙ desc_again text b q)

abbrev none_read : Option Desc
none_read = None

pub is_described : (text : List ℕ) (r : Result Desc DescError) → GivesRead is_memory (λ (d : Desc). d) r (desc_read text) → IfOk r (λ d. Describes text d)
is_described text (Ok d) given = desc_takes text d given
is_described text (Err e) given = tt

pub is_refused_rightly : (text : List ℕ) (r : Result Desc DescError) → GivesRead is_memory (λ (d : Desc). d) r (desc_read text) → IsErrOf r errors.NotADescriptor → (d : Desc) → Describes text d → ⊥
is_refused_rightly text (Ok x) given h d p = absurd cc
is_refused_rightly text (Err errors.Memory) given h d p = absurd cc
is_refused_rightly text (Err errors.NotADescriptor) given h d p = let bad : none_read ≡ Some d = sym given ∙ desc_again text d p in absurd cc

-- a descriptor's parameters take at most 255 slots
pub few_slots : (text : List ℕ) (d : Desc) → Describes text d → slots_of d ≤ 255
few_slots text (descs.Field ty) p = omega arith
few_slots text (descs.Method ps ret) p = p.valid.2
