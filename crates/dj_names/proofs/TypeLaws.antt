-- A type that is read is spelled so, and a type that is spelled so is read.
use Rattle.std.proofs.Common.{◌≡◌, ◌≢◌, ℕ, zero, suc, ◌+◌, ◌<◌, ◌≤◌, Bool, true, false, cond, ltb, eqb, List, [], ◌∷◌, ◌++◌, Option, Some, None, refl, sym, ap, subst, ◌∙◌, append_assoc, arith, inl, inr}
use Rattle.std.specs.Prelude.{replicate}
use Rattle.std.proofs.lemmas.Bool.{ltb-true, lt-ltb, eqb-true, eqb-false, ne_eqb}
use Rattle.std.proofs.lemmas.List.{append-nil}
use Rattle.std.specs.List.{AllByRecursion, join_with_byte}
use Rattle.dj_cursor.specs.trusted.Options.{◌>>=◌}
use Rattle.dj_cursor.proofs.Options.{bind_some, some_is, chosen, chose_some, went_on}
use Rattle.dj_names.specs.declared.descriptor.Base.{Base}
use Rattle.dj_names.specs.declared.descriptor.Base.TheVariants as bases
use Rattle.dj_names.specs.declared.descriptor.Of.{Of}
use Rattle.dj_names.specs.declared.descriptor.Of.TheVariants as ofs
use Rattle.dj_names.specs.declared.descriptor.Ty.{Ty}
use Rattle.dj_names.specs.trusted.Names.{IsNameByte, IsUnqualifiedName, IsClassName}
use Rattle.dj_names.specs.trusted.Descriptors.{base_letter, of_text, type_text, NamesClass, IsType}
use Rattle.dj_names.specs.trusted.NameReading.{reads_class_name}
use Rattle.dj_names.specs.trusted.DescReading.{base_at, dims_read, name_read, class_read, of_read, type_read}
use Rattle.dj_names.proofs.NameLaws.{class_name_read, reads_class}

-- ---- base types

abbrev letter : Base → ℕ
letter bases.Boolean = 90
letter bases.Byte = 66
letter bases.Char = 67
letter bases.Short = 83
letter bases.Int = 73
letter bases.Long = 74
letter bases.Float = 70
letter bases.Double = 68

letter-is : (base : Base) → base_letter base ≡ letter base ∷ []
letter-is bases.Boolean = refl
letter-is bases.Byte = refl
letter-is bases.Char = refl
letter-is bases.Short = refl
letter-is bases.Int = refl
letter-is bases.Long = refl
letter-is bases.Float = refl
letter-is bases.Double = refl

base_again : (base : Base) → base_at (letter base) ≡ Some base
base_again bases.Boolean = refl
base_again bases.Byte = refl
base_again bases.Char = refl
base_again bases.Short = refl
base_again bases.Int = refl
base_again bases.Long = refl
base_again bases.Float = refl
base_again bases.Double = refl

-- one letter that was tried
tried : (c n : ℕ) (base found : Base) (others : Option Base) → letter base ≡ n → (others ≡ Some found → c ≡ letter found) → cond (eqb c n) (Some base) others ≡ Some found → c ≡ letter found
tried c n base found others is next e =
    elim (chosen (eqb c n) (Some base) others (Some found) e) [
      | inl h ↦ let same : base ≡ found = some_is base found h.1 in eqb-true c n h.0 ∙ sym is ∙ ap letter same
      | inr h ↦ next h.1
    ]

base_takes : (c : ℕ) (found : Base) → base_at c ≡ Some found → c ≡ letter found
base_takes c found =
    tried c 90 bases.Boolean found _ refl
    (tried c 66 bases.Byte found _ refl
    (tried c 67 bases.Char found _ refl
    (tried c 83 bases.Short found _ refl
    (tried c 73 bases.Int found _ refl
    (tried c 74 bases.Long found _ refl
    (tried c 70 bases.Float found _ refl
    (tried c 68 bases.Double found None refl (λ e. absurd cc))))))))

letter_is_no_class : (base : Base) → eqb (letter base) 76 ≡ false
letter_is_no_class bases.Boolean = refl
letter_is_no_class bases.Byte = refl
letter_is_no_class bases.Char = refl
letter_is_no_class bases.Short = refl
letter_is_no_class bases.Int = refl
letter_is_no_class bases.Long = refl
letter_is_no_class bases.Float = refl
letter_is_no_class bases.Double = refl

letter_is_no_bracket : (base : Base) → eqb (letter base) 91 ≡ false
letter_is_no_bracket bases.Boolean = refl
letter_is_no_bracket bases.Byte = refl
letter_is_no_bracket bases.Char = refl
letter_is_no_bracket bases.Short = refl
letter_is_no_bracket bases.Int = refl
letter_is_no_bracket bases.Long = refl
letter_is_no_bracket bases.Float = refl
letter_is_no_bracket bases.Double = refl

-- ---- brackets

record Brackets (n : ℕ) (bytes : List ℕ) (x : ℕ × List ℕ) : Type 0 where
  pub count : ℕ
  pub total : x.0 ≡ n + count
  pub parts : bytes ≡ replicate count 91 ++ x.1
  pub few : n ≤ 255 → x.0 ≤ 255

dims_take : (bytes : List ℕ) (n : ℕ) (x : ℕ × List ℕ) → dims_read n bytes ≡ Some x → Brackets n bytes x
unfolding dims_read
dims_take [] n x e =
    let made : ℕ × List ℕ = (n, []) in
    subst (λ (y : ℕ × List ℕ). Brackets n [] y) (some_is made x e) (record { count = 0; total = omega arith; parts = refl; few = λ h. h })
dims_take (b ∷ more) n x e =
    elim (chosen (eqb b 91) (cond (ltb n 255) (dims_read (n + 1) more) None) (Some (n, b ∷ more)) (Some x) e) [
      | inl h ↦
          let g = went_on (ltb n 255) (dims_read (n + 1) more) x h.1 in
          let r = dims_take more (n + 1) x g.1 in
          let room : n < 255 = ltb-true n 255 g.0 in
          let one : b ≡ 91 = eqb-true b 91 h.0 in
          record { count = suc r.count; total = omega (arith, r.total); parts = ap (λ (c : ℕ). c ∷ more) one ∙ ap (λ (t : List ℕ). 91 ∷ t) r.parts; few = λ k. r.few (omega arith) }
      | inr h ↦
          let made : ℕ × List ℕ = (n, b ∷ more) in
          subst (λ (y : ℕ × List ℕ). Brackets n (b ∷ more) y) (some_is made x h.1) (record { count = 0; total = omega arith; parts = refl; few = λ k. k })
    ]

dims_again : (count n b : ℕ) (more : List ℕ) → eqb b 91 ≡ false → n + count ≤ 255 → dims_read n (replicate count 91 ++ (b ∷ more)) ≡ Some (n + count, b ∷ more)
unfolding dims_read
dims_again zero n b more other few =
    ap (λ (t : Bool). cond t (cond (ltb n 255) (dims_read (n + 1) more) None) (Some (n, b ∷ more))) other ∙ ap (λ (k : ℕ). Some (k, b ∷ more)) (let k : n ≡ n + zero = omega arith in k)
dims_again (suc count) n b more other few =
    ap (λ (t : Bool). cond t (dims_read (n + 1) (replicate count 91 ++ (b ∷ more))) None) (lt-ltb n 255 (omega arith))
    ∙ dims_again count (n + 1) b more other (omega arith)
    ∙ ap (λ (k : ℕ). Some (k, b ∷ more)) (let k : n + 1 + count ≡ n + suc count = omega arith in k)

-- ---- class names

record UpToStop (prefix bytes : List ℕ) (x : List ℕ × List ℕ) : Type 0 where
  pub name : List ℕ
  pub prefix_is : x.0 ≡ prefix ++ name
  pub parts : bytes ≡ name ++ (59 ∷ x.1)

name_takes : (bytes prefix : List ℕ) (x : List ℕ × List ℕ) → name_read prefix bytes ≡ Some x → UpToStop prefix bytes x
unfolding name_read
name_takes [] prefix x e = absurd cc
name_takes (b ∷ more) prefix x e =
    elim (chosen (eqb b 59) (Some (prefix, more)) (name_read (prefix ++ b ∷ []) more) (Some x) e) [
      | inl h ↦
          let made : List ℕ × List ℕ = (prefix, more) in
          subst (λ (y : List ℕ × List ℕ). UpToStop prefix (b ∷ more) y) (some_is made x h.1) (record { name = []; prefix_is = sym (append-nil prefix); parts = ap (λ (c : ℕ). c ∷ more) (eqb-true b 59 h.0) })
      | inr h ↦
          let r = name_takes more (prefix ++ b ∷ []) x h.1 in
          record { name = b ∷ r.name; prefix_is = r.prefix_is ∙ append_assoc prefix (b ∷ []) r.name; parts = ap (λ (t : List ℕ). b ∷ t) r.parts }
    ]

name_again : (name prefix rest : List ℕ) → AllByRecursion (λ b. b ≢ 59) name → name_read prefix (name ++ (59 ∷ rest)) ≡ Some (prefix ++ name, rest)
unfolding name_read
name_again [] prefix rest free = ap (λ (t : List ℕ). Some (t, rest)) (sym (append-nil prefix))
name_again (b ∷ name) prefix rest free =
    ap (λ (t : Bool). cond t (Some (prefix, name ++ (59 ∷ rest))) (name_read (prefix ++ b ∷ []) (name ++ (59 ∷ rest)))) (ne_eqb b 59 free.0)
    ∙ name_again name (prefix ++ b ∷ []) rest free.1
    ∙ ap (λ (t : List ℕ). Some (t, rest)) (append_assoc prefix (b ∷ []) name)

-- a class name has no semicolon
no_stop : (name : List ℕ) → AllByRecursion IsNameByte name → AllByRecursion (λ b. b ≢ 59) name
no_stop [] fits = tt
no_stop (b ∷ name) fits = (fits.0.not_semicolon, no_stop name fits.1)

no_stop-append : (a b : List ℕ) → AllByRecursion (λ c. c ≢ 59) a → AllByRecursion (λ c. c ≢ 59) b → AllByRecursion (λ c. c ≢ 59) (a ++ b)
no_stop-append [] b p q = q
no_stop-append (x ∷ a) b p q = (p.0, no_stop-append a b p.1 q)

no_stop-join : (parts : List (List ℕ)) → AllByRecursion IsUnqualifiedName parts → AllByRecursion (λ b. b ≢ 59) (join_with_byte 47 parts)
no_stop-join [] names = tt
no_stop-join (p ∷ []) names = no_stop p names.0.bytes
no_stop-join (p ∷ q ∷ ps) names =
    let slash : 47 ≢ 59 = eqb-false 47 59 refl in
    no_stop-append p (47 ∷ join_with_byte 47 (q ∷ ps)) (no_stop p names.0.bytes) (slash, no_stop-join (q ∷ ps) names.1)

no_stop-class : (name : List ℕ) → IsClassName name → AllByRecursion (λ b. b ≢ 59) name
no_stop-class name n = let P : List ℕ → Type 0 = λ t. AllByRecursion (λ b. b ≢ 59) t in subst P (sym n.joined) (no_stop-join n.parts n.names)

-- ---- elements

abbrev IsOfAt : List ℕ → Of × List ℕ → Type 0
IsOfAt bytes x = (bytes ≡ of_text x.0 ++ x.1) × NamesClass x.0

class_text : (name rest : List ℕ) → 76 ∷ (name ++ (59 ∷ rest)) ≡ of_text (ofs.Class name) ++ rest
class_text name rest = ap (λ (t : List ℕ). 76 ∷ t) (sym (append_assoc name (59 ∷ []) rest))

class_takes : (bytes : List ℕ) (x : Of × List ℕ) → class_read bytes ≡ Some x → IsOfAt (76 ∷ bytes) x
unfolding class_read
class_takes bytes x e =
    let a = bind_some (name_read [] bytes) (λ y. cond (reads_class_name true y.0) (Some (ofs.Class y.0, y.1)) None) x e in
    let made : Of × List ℕ = (ofs.Class a.0.0, a.0.1) in
    let g = chose_some (reads_class_name true a.0.0) made x a.2 in
    let r = name_takes bytes [] a.0 a.1 in
    let parts : bytes ≡ a.0.0 ++ (59 ∷ a.0.1) = r.parts ∙ ap (λ (t : List ℕ). t ++ (59 ∷ a.0.1)) (sym r.prefix_is) in
    subst (λ (y : Of × List ℕ). IsOfAt (76 ∷ bytes) y) g.1 (ap (λ (t : List ℕ). 76 ∷ t) parts ∙ class_text a.0.0 a.0.1, class_name_read a.0.0 g.0)

class_again : (name rest : List ℕ) → IsClassName name → class_read (name ++ (59 ∷ rest)) ≡ Some (ofs.Class name, rest)
unfolding class_read
class_again name rest n =
    ap (λ (o : Option (List ℕ × List ℕ)). o >>= λ y. cond (reads_class_name true y.0) (Some (ofs.Class y.0, y.1)) None) (name_again name [] rest (no_stop-class name n))
    ∙ ap (λ (t : Bool). cond t (Some (ofs.Class name, rest)) None) (reads_class name n)

of_takes : (bytes : List ℕ) (x : Of × List ℕ) → of_read bytes ≡ Some x → IsOfAt bytes x
unfolding of_read
of_takes [] x e = absurd cc
of_takes (b ∷ more) x e =
    elim (chosen (eqb b 76) (class_read more) (base_at b >>= λ base. Some (ofs.Base base, more)) (Some x) e) [
      | inl h ↦
          let one : b ≡ 76 = eqb-true b 76 h.0 in
          let r = class_takes more x h.1 in
          (ap (λ (c : ℕ). c ∷ more) one ∙ r.0, r.1)
      | inr h ↦
          let a = bind_some (base_at b) (λ base. Some (ofs.Base base, more)) x h.1 in
          let made : Of × List ℕ = (ofs.Base a.0, more) in
          let text : b ∷ more ≡ base_letter a.0 ++ more = ap (λ (c : ℕ). c ∷ more) (base_takes b a.0 a.1) ∙ ap (λ (t : List ℕ). t ++ more) (sym (letter-is a.0)) in
          subst (λ (y : Of × List ℕ). IsOfAt (b ∷ more) y) (some_is made x a.2) (text, tt)
    ]

of_again : (of : Of) (rest : List ℕ) → NamesClass of → of_read (of_text of ++ rest) ≡ Some (of, rest)
unfolding of_read
of_again (ofs.Base base) rest named =
    ap (λ (t : List ℕ). of_read (t ++ rest)) (letter-is base)
    ∙ ap (λ (t : Bool). cond t (class_read rest) (base_at (letter base) >>= λ found. Some (ofs.Base found, rest))) (letter_is_no_class base)
    ∙ ap (λ (o : Option Base). o >>= λ found. Some (ofs.Base found, rest)) (base_again base)
of_again (ofs.Class name) rest named = ap of_read (sym (class_text name rest)) ∙ class_again name rest named

-- an element's text begins with no bracket, and has a first byte
record Begins (text : List ℕ) : Type 0 where
  pub first : ℕ
  pub more : List ℕ
  pub is : text ≡ first ∷ more
  pub no_bracket : eqb first 91 ≡ false

of_begins : (of : Of) (rest : List ℕ) → Begins (of_text of ++ rest)
of_begins (ofs.Base base) rest = record { first = letter base; more = rest; is = ap (λ (t : List ℕ). t ++ rest) (letter-is base); no_bracket = letter_is_no_bracket base }
of_begins (ofs.Class name) rest = record { first = 76; more = (name ++ (59 ∷ [])) ++ rest; is = refl; no_bracket = refl }

-- ---- types

abbrev pub IsTypeAt : List ℕ → Ty × List ℕ → Type 0
IsTypeAt bytes x = (bytes ≡ type_text x.0 ++ x.1) × IsType x.0

pub type_takes : (bytes : List ℕ) (x : Ty × List ℕ) → type_read bytes ≡ Some x → IsTypeAt bytes x
unfolding type_read
type_takes bytes x e =
    let a = bind_some (dims_read 0 bytes) (λ d. of_read d.1 >>= λ o. Some (record { dims = d.0; of = o.0 }, o.1)) x e in
    let b = bind_some (of_read a.0.1) (λ o. Some (record { dims = a.0.0; of = o.0 }, o.1)) x a.2 in
    let made : Ty × List ℕ = (record { dims = a.0.0; of = b.0.0 }, b.0.1) in
    let d = dims_take bytes 0 a.0 a.1 in
    let o = of_takes a.0.1 b.0 b.1 in
    let count : d.count ≡ a.0.0 = omega (arith, d.total) in
    let text : bytes ≡ (replicate a.0.0 91 ++ of_text b.0.0) ++ b.0.1 =
    d.parts ∙ ap (λ (k : ℕ). replicate k 91 ++ a.0.1) count ∙ ap (λ (t : List ℕ). replicate a.0.0 91 ++ t) o.0 ∙ sym (append_assoc (replicate a.0.0 91) (of_text b.0.0) b.0.1) in
    subst (λ (y : Ty × List ℕ). IsTypeAt bytes y) (some_is made x b.2) (text, record { few = d.few (omega arith); named = o.1 })

pub type_again : (ty : Ty) (rest : List ℕ) → IsType ty → type_read (type_text ty ++ rest) ≡ Some (ty, rest)
unfolding type_read
type_again ty rest t =
    let begins = of_begins ty.of rest in
    let regrouped : type_text ty ++ rest ≡ replicate ty.dims 91 ++ (begins.first ∷ begins.more) =
    append_assoc (replicate ty.dims 91) (of_text ty.of) rest ∙ ap (λ (u : List ℕ). replicate ty.dims 91 ++ u) begins.is in
    let counted : dims_read 0 (replicate ty.dims 91 ++ (begins.first ∷ begins.more)) ≡ Some (ty.dims, of_text ty.of ++ rest) =
    dims_again ty.dims 0 begins.first begins.more begins.no_bracket (omega (arith, t.few))
    ∙ ap (λ (k : ℕ). Some (k, begins.first ∷ begins.more)) (let k : 0 + ty.dims ≡ ty.dims = omega arith in k)
    ∙ ap (λ (u : List ℕ). Some (ty.dims, u)) (sym begins.is) in
    ap type_read regrouped
    ∙ ap (λ (o : Option (ℕ × List ℕ)). o >>= λ d. of_read d.1 >>= λ f. Some (record { dims = d.0; of = f.0 }, f.1)) counted
    ∙ ap (λ (o : Option (Of × List ℕ)). o >>= λ f. Some (record { dims = ty.dims; of = f.0 }, f.1)) (of_again ty.of rest t.named)

-- a type's text has a first byte, which is no parenthesis and no V
pub record TypeBegins (text : List ℕ) : Type 0 where
  pub first : ℕ
  pub more : List ℕ
  pub is : text ≡ first ∷ more
  pub no_open : eqb first 40 ≡ false
  pub no_close : eqb first 41 ≡ false
  pub no_void : eqb first 86 ≡ false

of_starts : (of : Of) (rest : List ℕ) → TypeBegins (of_text of ++ rest)
of_starts (ofs.Base bases.Boolean) rest = record { first = 90; more = rest; is = refl; no_open = refl; no_close = refl; no_void = refl }
of_starts (ofs.Base bases.Byte) rest = record { first = 66; more = rest; is = refl; no_open = refl; no_close = refl; no_void = refl }
of_starts (ofs.Base bases.Char) rest = record { first = 67; more = rest; is = refl; no_open = refl; no_close = refl; no_void = refl }
of_starts (ofs.Base bases.Short) rest = record { first = 83; more = rest; is = refl; no_open = refl; no_close = refl; no_void = refl }
of_starts (ofs.Base bases.Int) rest = record { first = 73; more = rest; is = refl; no_open = refl; no_close = refl; no_void = refl }
of_starts (ofs.Base bases.Long) rest = record { first = 74; more = rest; is = refl; no_open = refl; no_close = refl; no_void = refl }
of_starts (ofs.Base bases.Float) rest = record { first = 70; more = rest; is = refl; no_open = refl; no_close = refl; no_void = refl }
of_starts (ofs.Base bases.Double) rest = record { first = 68; more = rest; is = refl; no_open = refl; no_close = refl; no_void = refl }
of_starts (ofs.Class name) rest = record { first = 76; more = (name ++ (59 ∷ [])) ++ rest; is = refl; no_open = refl; no_close = refl; no_void = refl }

dims_start : (n : ℕ) (of : Of) (rest : List ℕ) → TypeBegins ((replicate n 91 ++ of_text of) ++ rest)
dims_start zero of rest = of_starts of rest
dims_start (suc n) of rest = record { first = 91; more = (replicate n 91 ++ of_text of) ++ rest; is = refl; no_open = refl; no_close = refl; no_void = refl }

pub type_begins : (ty : Ty) (rest : List ℕ) → TypeBegins (type_text ty ++ rest)
type_begins ty rest = dims_start ty.dims ty.of rest
