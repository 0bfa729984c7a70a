-- Indexes, attributes, fields, methods and what stands before them: what is read is spelled so, what is spelled so is read, and reading fails exactly
-- where there is a fault.
use Rattle.std.proofs.Common.{◌≡◌, ℕ, zero, suc, ◌+◌, ◌^◌, ◌<◌, ◌==◌, ◌||◌, Bool, true, eqb, List, ◌++◌, length, Option, Some, None, IsSomeAnd, option_and_then, Result, Ok, refl, sym, ap, subst, ◌∙◌, arith, inl, inr}
use Rattle.std.specs.Prelude.{⊤}
use Rattle.std.proofs.lemmas.Bool.{eqb-true, eq-eqb, or_cases}
use Rattle.std.proofs.lemmas.Option.{slice_get_within}
use Rattle.std.proofs.Math.Bool.{or-true}
use Rattle.dj_cursor.specs.trusted.Spelling.{u2, u4, table_bytes}
use Rattle.dj_cursor.specs.Steps.{◌>>=◌}
use Rattle.dj_cursor.specs.Reading.{Cursor, u2_at, table_at}
use Rattle.dj_cursor.proofs.Bytes.{IsBytes}
use Rattle.dj_cursor.specs.Faults.{InTurn, Fits2, AreFew}
use Rattle.dj_cursor.proofs.Steps.{bind_again, three_steps, four_steps, guard_ok, guard_again}
use Rattle.dj_cursor.proofs.Parts.{table_reads}
use Rattle.dj_cursor.proofs.Spans.{Reads-good, Spans, Spans-then, Reads, step_takes, step_again}
use Rattle.dj_cursor.proofs.Numbers.{u2_reads, u4_reads, block_reads}
use Rattle.dj_cursor.proofs.FaultLaws.{Refuses, Refuses-same, u2_refuses, u4_refuses, block_refuses, refuses_then, refuses_last, table_refuses, guard_refuses}
use Rattle.dj_names.specs.Tests.{class_name_test}
use Rattle.dj_names.specs.trusted.Names.{IsClassName}
use Rattle.dj_pool.specs.trusted.Pool.{Constant, constant_at, text_at, text_of, class_text_of, class_name_at, NamesText, IsPool}
use Rattle.dj_pool.specs.Tests.{text_passes, is_class}
use Rattle.dj_pool.proofs.Decides.{DecidesText, TestsDecide, passes_takes, passes_again, any_text}
use Rattle.dj_class.specs.declared.class.ClassError.{ClassError}
use Rattle.dj_class.specs.declared.class.ClassError.TheVariants as class_errors
use Rattle.dj_class.specs.trusted.ClassFile.{AttributeInfo, MemberInfo, attribute_bytes, member_bytes, header_bytes, NamesClass, IsAttribute, AreAttributes, IsMember}
use Rattle.dj_class.specs.Faults.{Fault, Cut2, IndexFault, AttributeFault, AttributesFault, MemberFault, MagicFault, NamesSuper, InterfacesFault}
use Rattle.dj_class.specs.Reading.{index_at, is_super, attribute_at, member_at, magic_at, header_at, Heading, heading_at}

-- ---- indexes

some_before : {A B : Type 0} (f : A → Option B) (P : B → Type 0) (o : Option A) → IsSomeAnd (option_and_then f o) P → (x : A) × (o ≡ Some x)
some_before f P None h = absurd h
some_before f P (Some x) h = (x, refl)

is_some_and : {A : Type 0} (o : Option A) (x : A) → o ≡ Some x → IsSomeAnd o (λ _. ⊤)
is_some_and None x h = absurd cc
is_some_and (Some y) x h = tt

constant_below : (pool : List Constant) (i : ℕ) (k : Constant) → constant_at pool i ≡ Some k → i < length pool + 1
constant_below pool zero k h = absurd cc
constant_below pool (suc i) k h = let lt : i < length pool = slice_get_within pool i k h in omega arith

pub text_below : (pool : List Constant) (i : ℕ) (P : List ℕ → Type 0) → IsPool pool → IsSomeAnd (text_at pool i) P → i < 2 ^ 16
text_below pool i P valid h =
    let k = some_before text_of P (constant_at pool i) h in
    let lt : i < length pool + 1 = constant_below pool i k.0 k.1 in
    omega (arith, valid.count)

pub class_below : (pool : List Constant) (i : ℕ) → IsPool pool → NamesClass pool i → i < 2 ^ 16
class_below pool i valid h =
    let j = some_before (text_at pool) IsClassName (option_and_then class_text_of (constant_at pool i)) h in
    let k = some_before class_text_of (λ _. ⊤) (constant_at pool i) (is_some_and (option_and_then class_text_of (constant_at pool i)) j.0 j.1) in
    let lt : i < length pool + 1 = constant_below pool i k.0 k.1 in
    omega (arith, valid.count)

abbrev pub Passes : (ℕ → Bool) → ℕ → Type 0
Passes test i = (i < 2 ^ 16) × (test i ≡ true)

index_takes : (test : ℕ → Bool) (c : Cursor) (x : ℕ × Cursor) → IsBytes c.rest → index_at test c ≡ Ok x → Spans c (u2 x.0) x.1 × Passes test x.0
unfolding index_at
index_takes test c x fits e =
    let n = step_takes (u2_reads class_errors.Cut) c fits e in
    let g = guard_ok _ n.rest in
    subst (λ (y : ℕ × Cursor). Spans c (u2 y.0) y.1 × Passes test y.0) g.1 (n.spans, (n.good, g.0))

index_again : (test : ℕ → Bool) (c : Cursor) (x : ℕ) (next : Cursor) → Passes test x → Spans c (u2 x) next → index_at test c ≡ Ok (x, next)
unfolding index_at
index_again test c x next good s = bind_again _ ((u2_reads class_errors.Cut).again c x next good.0 s) (guard_again _ good.1)

pub index_reads : (test : ℕ → Bool) → Reads (index_at test) u2 (Passes test)
index_reads test = record { takes = index_takes test; again = index_again test }

-- an index that is cut or denied
pub index_refuses : (test : ℕ → Bool) (P : ℕ → Type 0) → ((i : ℕ) → test i ≡ true → P i) → ((i : ℕ) → P i → test i ≡ true) → Refuses (index_at test) (IndexFault P)
unfolding index_at
index_refuses test P to from = guard_refuses test P class_errors.Index (u2_reads class_errors.Cut) (u2_refuses class_errors.Cut) to from

-- an index of a text of this kind
pub text_index_reads : (pool : List Constant) (test : List ℕ → Bool) (P : List ℕ → Type 0) → IsPool pool → DecidesText test P → Reads (index_at (text_passes test pool)) u2 (NamesText P pool)
text_index_reads pool test P valid d = Reads-good (index_reads (text_passes test pool))
    (λ i h. passes_takes test P d (text_at pool i) h.1)
    (λ i h. (text_below pool i P valid h, passes_again test P d (text_at pool i) h))

pub text_index_refuses : (pool : List Constant) (test : List ℕ → Bool) (P : List ℕ → Type 0) → DecidesText test P → Refuses (index_at (text_passes test pool)) (IndexFault (NamesText P pool))
text_index_refuses pool test P d = index_refuses (text_passes test pool) (NamesText P pool)
    (λ i h. passes_takes test P d (text_at pool i) h)
    (λ i h. passes_again test P d (text_at pool i) h)

class_to : (d : TestsDecide) (pool : List Constant) (i : ℕ) → is_class pool i ≡ true → NamesClass pool i
class_to d pool i h = passes_takes class_name_test IsClassName d.class_name (class_name_at pool i) h

class_from : (d : TestsDecide) (pool : List Constant) (i : ℕ) → NamesClass pool i → is_class pool i ≡ true
class_from d pool i h = passes_again class_name_test IsClassName d.class_name (class_name_at pool i) h

-- an index of a class that is no array
pub class_index_reads : (d : TestsDecide) (pool : List Constant) → IsPool pool → Reads (index_at (is_class pool)) u2 (NamesClass pool)
class_index_reads d pool valid = Reads-good (index_reads (is_class pool)) (λ i h. class_to d pool i h.1) (λ i h. (class_below pool i valid h, class_from d pool i h))

pub class_index_refuses : (d : TestsDecide) (pool : List Constant) → Refuses (index_at (is_class pool)) (IndexFault (NamesClass pool))
class_index_refuses d pool = index_refuses (is_class pool) (NamesClass pool) (class_to d pool) (class_from d pool)

super_to : (d : TestsDecide) (pool : List Constant) (i : ℕ) → is_super pool i ≡ true → NamesSuper pool i
super_to d pool i h = elim (or_cases (eqb i 0) (is_class pool i) h) as (λ _. NamesSuper pool i) [
  | inl z ↦ inl (eqb-true _ _ z)
  | inr n ↦ inr (class_to d pool i n)
]

super_from : (d : TestsDecide) (pool : List Constant) (i : ℕ) → NamesSuper pool i → is_super pool i ≡ true
super_from d pool i h = elim h as (λ _. is_super pool i ≡ true) [
  | inl z ↦ ap (λ b. b || is_class pool i) (eq-eqb i 0 z)
  | inr n ↦ ap (λ b. eqb i 0 || b) (class_from d pool i n) ∙ or-true (eqb i 0)
]

super_below : (pool : List Constant) (i : ℕ) → IsPool pool → NamesSuper pool i → i < 2 ^ 16
super_below pool i valid h = elim h as (λ _. i < 2 ^ 16) [ inl z ↦ omega arith | inr n ↦ class_below pool i valid n ]

-- the same, or 0
pub super_index_reads : (d : TestsDecide) (pool : List Constant) → IsPool pool → Reads (index_at (is_super pool)) u2 (NamesSuper pool)
super_index_reads d pool valid = Reads-good (index_reads (is_super pool)) (λ i h. super_to d pool i h.1) (λ i h. (super_below pool i valid h, super_from d pool i h))

pub super_index_refuses : (d : TestsDecide) (pool : List Constant) → Refuses (index_at (is_super pool)) (IndexFault (NamesSuper pool))
super_index_refuses d pool = index_refuses (is_super pool) (NamesSuper pool) (super_to d pool) (super_from d pool)

-- ---- attributes

attribute_takes : (pool : List Constant) → IsPool pool → (c : Cursor) (x : AttributeInfo × Cursor) → IsBytes c.rest → attribute_at pool c ≡ Ok x → Spans c (attribute_bytes x.0) x.1 × IsAttribute pool x.0
unfolding attribute_at
attribute_takes pool valid c x fits e =
    let name = step_takes (text_index_reads pool (λ _. true) (λ _. ⊤) valid any_text) c fits e in
    let len = step_takes (u4_reads class_errors.Cut) name.next name.fits name.rest in
    let body = step_takes (block_reads class_errors.Cut len.value) len.next len.fits len.rest in
    let made : (record { name = name.value; body = body.value }, body.next) ≡ x = cc (body.rest) in
    let whole : Spans c (u2 name.value ++ (u4 len.value ++ body.value)) body.next = Spans-then name.spans (Spans-then len.spans body.spans) in
    let spelled : Spans c (u2 name.value ++ (u4 (length body.value) ++ body.value)) body.next = subst (λ (k : ℕ). Spans c (u2 name.value ++ (u4 k ++ body.value)) body.next) (sym body.good) whole in
    subst (λ (y : AttributeInfo × Cursor). Spans c (attribute_bytes y.0) y.1 × IsAttribute pool y.0) made (spelled, record { name = name.good; body = omega (arith, body.good, len.good) })

attribute_again : (pool : List Constant) → IsPool pool → (c : Cursor) (x : AttributeInfo) (next : Cursor) → IsAttribute pool x → Spans c (attribute_bytes x) next → attribute_at pool c ≡ Ok (x, next)
unfolding attribute_at
attribute_again pool valid c x next good s =
    let name = step_again (text_index_reads pool (λ _. true) (λ _. ⊤) valid any_text) c x.name (u4 (length x.body) ++ x.body) next good.name s in
    let len = step_again (u4_reads class_errors.Cut) name.0 (length x.body) x.body next good.body name.2 in
    bind_again _ name.1 (bind_again _ len.1 (bind_again _ ((block_reads class_errors.Cut (length x.body)).again len.0 x.body next refl len.2) refl))

pub attribute_reads : (pool : List Constant) → IsPool pool → Reads (attribute_at pool) attribute_bytes (IsAttribute pool)
attribute_reads pool valid = record { takes = attribute_takes pool valid; again = attribute_again pool valid }

pub attributes_read : (pool : List Constant) → IsPool pool → Reads (table_at class_errors.Cut (attribute_at pool)) (table_bytes attribute_bytes) (AreAttributes pool)
attributes_read pool valid = Reads-good (table_reads class_errors.Cut (attribute_reads pool valid)) (λ xs h. record { count = h.0; each = h.1 }) (λ xs h. (h.count, h.each))

pub attribute_refuses : (pool : List Constant) → IsPool pool → Refuses (attribute_at pool) (AttributeFault pool)
unfolding attribute_at
attribute_refuses pool valid =
    refuses_then _ (text_index_reads pool (λ _. true) (λ _. ⊤) valid any_text) (text_index_refuses pool (λ _. true) (λ _. ⊤) any_text) (λ name _.
    refuses_then _ (u4_reads class_errors.Cut) (u4_refuses class_errors.Cut) (λ len _.
    refuses_last _ (block_refuses class_errors.Cut len)))

pub attributes_refuse : (pool : List Constant) → IsPool pool → Refuses (table_at class_errors.Cut (attribute_at pool)) (AttributesFault pool)
attributes_refuse pool valid = table_refuses class_errors.Cut (attribute_reads pool valid) (attribute_refuses pool valid)

-- ---- fields and methods

member_takes : (name_test desc_test : List ℕ → Bool) (IsName IsDescriptor : List ℕ → Type 0) → DecidesText name_test IsName → DecidesText desc_test IsDescriptor → (pool : List Constant) → IsPool pool → (c : Cursor) (x : MemberInfo × Cursor)
    → IsBytes c.rest → member_at name_test desc_test pool c ≡ Ok x → Spans c (member_bytes x.0) x.1 × IsMember IsName IsDescriptor pool x.0
unfolding member_at
member_takes name_test desc_test IsName IsDescriptor dn dd pool valid c x fits e =
    let flags = step_takes (u2_reads class_errors.Cut) c fits e in
    let name = step_takes (text_index_reads pool name_test IsName valid dn) flags.next flags.fits flags.rest in
    let desc = step_takes (text_index_reads pool desc_test IsDescriptor valid dd) name.next name.fits name.rest in
    let attributes = step_takes (attributes_read pool valid) desc.next desc.fits desc.rest in
    let made : (record { flags = flags.value; name = name.value; desc = desc.value; attributes = attributes.value }, attributes.next) ≡ x = cc (attributes.rest) in
    let spelled : Spans c (u2 flags.value ++ (u2 name.value ++ (u2 desc.value ++ table_bytes attribute_bytes attributes.value))) attributes.next = Spans-then flags.spans (Spans-then name.spans (Spans-then desc.spans attributes.spans)) in
    subst (λ (y : MemberInfo × Cursor). Spans c (member_bytes y.0) y.1 × IsMember IsName IsDescriptor pool y.0) made
    (spelled, record { flags = flags.good; name = name.good; desc = desc.good; attributes = attributes.good })

member_again : (name_test desc_test : List ℕ → Bool) (IsName IsDescriptor : List ℕ → Type 0) → DecidesText name_test IsName → DecidesText desc_test IsDescriptor → (pool : List Constant) → IsPool pool → (c : Cursor) (x : MemberInfo) (next : Cursor)
    → IsMember IsName IsDescriptor pool x → Spans c (member_bytes x) next → member_at name_test desc_test pool c ≡ Ok (x, next)
unfolding member_at
member_again name_test desc_test IsName IsDescriptor dn dd pool valid c x next good s =
    let flags = step_again (u2_reads class_errors.Cut) c x.flags (u2 x.name ++ (u2 x.desc ++ table_bytes attribute_bytes x.attributes)) next good.flags s in
    let name = step_again (text_index_reads pool name_test IsName valid dn) flags.0 x.name (u2 x.desc ++ table_bytes attribute_bytes x.attributes) next good.name flags.2 in
    let desc = step_again (text_index_reads pool desc_test IsDescriptor valid dd) name.0 x.desc (table_bytes attribute_bytes x.attributes) next good.desc name.2 in
    bind_again _ flags.1 (bind_again _ name.1 (bind_again _ desc.1 (bind_again _ ((attributes_read pool valid).again desc.0 x.attributes next good.attributes desc.2) refl)))

pub member_reads : (name_test desc_test : List ℕ → Bool) (IsName IsDescriptor : List ℕ → Type 0) → DecidesText name_test IsName → DecidesText desc_test IsDescriptor → (pool : List Constant) → IsPool pool
    → Reads (member_at name_test desc_test pool) member_bytes (IsMember IsName IsDescriptor pool)
member_reads name_test desc_test IsName IsDescriptor dn dd pool valid = record {
  takes = member_takes name_test desc_test IsName IsDescriptor dn dd pool valid;
  again = member_again name_test desc_test IsName IsDescriptor dn dd pool valid;
}

pub member_refuses : (name_test desc_test : List ℕ → Bool) (IsName IsDescriptor : List ℕ → Type 0) → DecidesText name_test IsName → DecidesText desc_test IsDescriptor → (pool : List Constant) → IsPool pool
    → Refuses (member_at name_test desc_test pool) (MemberFault IsName IsDescriptor pool)
unfolding member_at
member_refuses name_test desc_test IsName IsDescriptor dn dd pool valid =
    refuses_then _ (u2_reads class_errors.Cut) (u2_refuses class_errors.Cut) (λ flags _.
    refuses_then _ (text_index_reads pool name_test IsName valid dn) (text_index_refuses pool name_test IsName dn) (λ name _.
    refuses_then _ (text_index_reads pool desc_test IsDescriptor valid dd) (text_index_refuses pool desc_test IsDescriptor dd) (λ desc _.
    refuses_last _ (attributes_refuse pool valid))))

-- ---- the header

abbrev IsMagic : ℕ → Type 0
IsMagic magic = magic ≡ 3405691582

magic_takes : (c : Cursor) (x : ℕ × Cursor) → IsBytes c.rest → magic_at c ≡ Ok x → Spans c (u4 x.0) x.1 × IsMagic x.0
unfolding magic_at
magic_takes c x fits e =
    let magic = step_takes (u4_reads class_errors.Cut) c fits e in
    let g = guard_ok _ magic.rest in
    subst (λ (y : ℕ × Cursor). Spans c (u4 y.0) y.1 × IsMagic y.0) g.1 (magic.spans, eqb-true _ _ g.0)

magic_again : (c : Cursor) (x : ℕ) (next : Cursor) → IsMagic x → Spans c (u4 x) next → magic_at c ≡ Ok (x, next)
unfolding magic_at
magic_again c x next good s = bind_again _ ((u4_reads class_errors.Cut).again c x next (omega (arith, good)) s) (guard_again _ (eq-eqb _ _ good))

magic_reads : Reads magic_at u4 IsMagic
magic_reads = record { takes = magic_takes; again = magic_again }

magic_refuses : Refuses magic_at MagicFault
unfolding magic_at
magic_refuses = guard_refuses (λ magic. magic == 3405691582) IsMagic (λ place. class_errors.Magic) (u4_reads class_errors.Cut) (u4_refuses class_errors.Cut) (λ magic h. eqb-true _ _ h) (λ magic h. eq-eqb _ _ h)

abbrev pub AreVersions : ℕ × ℕ → Type 0
AreVersions v = (v.0 < 2 ^ 16) × (v.1 < 2 ^ 16)

header_takes : (c : Cursor) (x : (ℕ × ℕ) × Cursor) → IsBytes c.rest → header_at c ≡ Ok x → Spans c (header_bytes x.0.0 x.0.1) x.1 × AreVersions x.0
unfolding header_at
header_takes c x fits e =
    let magic = step_takes magic_reads c fits e in
    let minor = step_takes (u2_reads class_errors.Cut) magic.next magic.fits magic.rest in
    let major = step_takes (u2_reads class_errors.Cut) minor.next minor.fits minor.rest in
    let made : ((minor.value, major.value), major.next) ≡ x = cc (major.rest) in
    let spelled : Spans c (u4 3405691582 ++ (u2 minor.value ++ u2 major.value)) major.next = subst (λ (m : ℕ). Spans c (u4 m ++ (u2 minor.value ++ u2 major.value)) major.next) magic.good (Spans-then magic.spans (Spans-then minor.spans major.spans)) in
    subst (λ (y : (ℕ × ℕ) × Cursor). Spans c (header_bytes y.0.0 y.0.1) y.1 × AreVersions y.0) made (spelled, (minor.good, major.good))

header_again : (c : Cursor) (x : ℕ × ℕ) (next : Cursor) → AreVersions x → Spans c (header_bytes x.0 x.1) next → header_at c ≡ Ok (x, next)
unfolding header_at
header_again c x next good s =
    let magic = step_again magic_reads c 3405691582 (u2 x.0 ++ u2 x.1) next refl s in
    let minor = step_again (u2_reads class_errors.Cut) magic.0 x.0 (u2 x.1) next good.0 magic.2 in
    bind_again _ magic.1 (bind_again _ minor.1 (bind_again _ ((u2_reads class_errors.Cut).again minor.0 x.1 next good.1 minor.2) refl))

pub header_reads : Reads header_at (λ v. header_bytes v.0 v.1) AreVersions
header_reads = record { takes = header_takes; again = header_again }

-- the header, and what follows it
pub header_refuses_then : {B : Type 0} {Later : ℕ × ℕ → Fault} (k : (ℕ × ℕ) × Cursor → Result B ClassError) → ((v : ℕ × ℕ) → AreVersions v → Refuses (λ c. k (v, c)) (Later v))
    → Refuses (λ c. header_at c >>= k) (InTurn MagicFault u4 IsMagic (λ magic. InTurn Cut2 u2 Fits2 (λ minor. InTurn Cut2 u2 Fits2 (λ major. Later (minor, major)))))
unfolding header_at
header_refuses_then k later = Refuses-same
    (λ c. three_steps (magic_at c) (λ magic. u2_at class_errors.Cut magic.1) (λ magic minor. u2_at class_errors.Cut minor.1) (λ magic minor major. ((minor.0, major.0), major.1)) k)
    (refuses_then _ magic_reads magic_refuses (λ magic _.
    refuses_then _ (u2_reads class_errors.Cut) (u2_refuses class_errors.Cut) (λ minor fits_minor.
    refuses_then _ (u2_reads class_errors.Cut) (u2_refuses class_errors.Cut) (λ major fits_major. later (minor, major) (fits_minor, fits_major)))))

-- ---- the flags, the class, its superclass and its interfaces

abbrev pub heading_bytes : Heading → List ℕ
heading_bytes h = u2 h.flags ++ u2 h.this_class ++ u2 h.super_class ++ table_bytes u2 h.interfaces

pub record IsHeading (pool : List Constant) (h : Heading) : Type 0 where
  pub flags : h.flags < 2 ^ 16
  pub this_class : NamesClass pool h.this_class
  pub super_class : NamesSuper pool h.super_class
  pub interfaces : AreFew (NamesClass pool) h.interfaces

heading_takes : (d : TestsDecide) (pool : List Constant) → IsPool pool → (c : Cursor) (x : Heading × Cursor) → IsBytes c.rest → heading_at pool c ≡ Ok x → Spans c (heading_bytes x.0) x.1 × IsHeading pool x.0
unfolding heading_at
heading_takes d pool valid c x fits e =
    let flags = step_takes (u2_reads class_errors.Cut) c fits e in
    let this_class = step_takes (class_index_reads d pool valid) flags.next flags.fits flags.rest in
    let super_class = step_takes (super_index_reads d pool valid) this_class.next this_class.fits this_class.rest in
    let interfaces = step_takes (table_reads class_errors.Cut (class_index_reads d pool valid)) super_class.next super_class.fits super_class.rest in
    let made : (record { flags = flags.value; this_class = this_class.value; super_class = super_class.value; interfaces = interfaces.value }, interfaces.next) ≡ x = cc (interfaces.rest) in
    let spelled : Spans c (u2 flags.value ++ (u2 this_class.value ++ (u2 super_class.value ++ table_bytes u2 interfaces.value))) interfaces.next = Spans-then flags.spans (Spans-then this_class.spans (Spans-then super_class.spans interfaces.spans)) in
    subst (λ (y : Heading × Cursor). Spans c (heading_bytes y.0) y.1 × IsHeading pool y.0) made
    (spelled, record { flags = flags.good; this_class = this_class.good; super_class = super_class.good; interfaces = interfaces.good })

heading_again : (d : TestsDecide) (pool : List Constant) → IsPool pool → (c : Cursor) (x : Heading) (next : Cursor) → IsHeading pool x → Spans c (heading_bytes x) next → heading_at pool c ≡ Ok (x, next)
unfolding heading_at
heading_again d pool valid c x next good s =
    let flags = step_again (u2_reads class_errors.Cut) c x.flags (u2 x.this_class ++ (u2 x.super_class ++ table_bytes u2 x.interfaces)) next good.flags s in
    let this_class = step_again (class_index_reads d pool valid) flags.0 x.this_class (u2 x.super_class ++ table_bytes u2 x.interfaces) next good.this_class flags.2 in
    let super_class = step_again (super_index_reads d pool valid) this_class.0 x.super_class (table_bytes u2 x.interfaces) next good.super_class this_class.2 in
    bind_again _ flags.1 (bind_again _ this_class.1 (bind_again _ super_class.1 (bind_again _ ((table_reads class_errors.Cut (class_index_reads d pool valid)).again super_class.0 x.interfaces next good.interfaces super_class.2) refl)))

pub heading_reads : (d : TestsDecide) (pool : List Constant) → IsPool pool → Reads (heading_at pool) heading_bytes (IsHeading pool)
heading_reads d pool valid = record { takes = heading_takes d pool valid; again = heading_again d pool valid }

pub interfaces_refuse : (d : TestsDecide) (pool : List Constant) → IsPool pool → Refuses (table_at class_errors.Cut (index_at (is_class pool))) (InterfacesFault pool)
interfaces_refuse d pool valid = table_refuses class_errors.Cut (class_index_reads d pool valid) (class_index_refuses d pool)

-- these, and what follows them
pub heading_refuses_then : {B : Type 0} {Later : Fault} (d : TestsDecide) (pool : List Constant) (k : Heading × Cursor → Result B ClassError) → IsPool pool → ((h : Heading) → IsHeading pool h → Refuses (λ c. k (h, c)) Later)
    → Refuses (λ c. heading_at pool c >>= k) (InTurn Cut2 u2 Fits2 (λ flags. InTurn (IndexFault (NamesClass pool)) u2 (NamesClass pool) (λ this_class. InTurn (IndexFault (NamesSuper pool)) u2 (NamesSuper pool) (λ super_class. InTurn (InterfacesFault pool) (table_bytes u2) (AreFew (NamesClass pool)) (λ interfaces. Later)))))
unfolding heading_at
heading_refuses_then d pool k valid later = Refuses-same
    (λ c. four_steps (u2_at class_errors.Cut c) (λ flags. index_at (is_class pool) flags.1) (λ flags this_class. index_at (is_super pool) this_class.1) (λ flags this_class super_class. table_at class_errors.Cut (index_at (is_class pool)) super_class.1)
    (λ flags this_class super_class interfaces. (record { flags = flags.0; this_class = this_class.0; super_class = super_class.0; interfaces = interfaces.0 }, interfaces.1)) k)
    (refuses_then _ (u2_reads class_errors.Cut) (u2_refuses class_errors.Cut) (λ flags fits.
    refuses_then _ (class_index_reads d pool valid) (class_index_refuses d pool) (λ this_class good.
    refuses_then _ (super_index_reads d pool valid) (super_index_refuses d pool) (λ super_class above.
    refuses_then _ (table_reads class_errors.Cut (class_index_reads d pool valid)) (interfaces_refuse d pool valid) (λ interfaces few.
    later (record { flags = flags; this_class = this_class; super_class = super_class; interfaces = interfaces }) (record { flags = fits; this_class = good; super_class = above; interfaces = few }))))))
