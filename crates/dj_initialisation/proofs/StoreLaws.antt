-- What constants of static fields make of a machine's heap, static fields and literals is what they do in the model.
use Rattle.std.proofs.Common.{◌≡◌, ℕ, ℤ, zero, suc, ◌<◌, Bool, true, false, List, [], ◌∷◌, length, set, Option, Some, None, refl, sym, ap, subst, ◌∙◌, arith, if◌then◌else◌}
use Rattle.std.specs.Prelude.{slice_get, unwrap_or}
use Rattle.std.specs.Option.{option_map}
use Rattle.std.specs.Cmp.Lexicographic.{bytes_decides}
use Rattle.std.proofs.lemmas.List.{length-set}
use Rattle.std.proofs.lemmas.Option.{none-some, same_Some, slice_get_within}
use Rattle.dj_names.specs.declared.run.Value.{Value}
use Rattle.dj_names.specs.declared.run.Value.TheVariants as values
use Rattle.dj_names.specs.declared.run.Outcome.TheVariants as outcomes
use Rattle.dj_names.specs.declared.descriptor.Ty.{Ty}
use Rattle.dj_names.specs.trusted.Heaps.{field_bits, text_size}
use Rattle.dj_names.specs.Heaps.{heap_map}
use Rattle.dj_names.specs.trusted.Types.{Name, same_name, class_type}
use Rattle.dj_library_types.specs.Numbered.{type_at}
use Rattle.dj_model.specs.trusted.Types.{string_name}
use Rattle.dj_model.specs.trusted.Program as programs
use Rattle.dj_model.specs.trusted.Program.{Program, Class, Field, Constant, is_static, fields_of, class_at}
use Rattle.dj_model.specs.trusted.Linking.{FoundField}
use Rattle.dj_model.specs.trusted.State.{State, Terms}
use Rattle.dj_model.specs.trusted.Members as members
use Rattle.dj_model.specs.trusted.Members.{with_literal}
use Rattle.dj_model.specs.trusted.Initialisation.{Initialised, Ready, Fails, then_ready, with_text, with_static}
use Rattle.dj_heap.specs.Heaps.{LimitedHeap}
use Rattle.dj_natives.specs.Known.{AreKnown}
use Rattle.dj_member_effects.specs.Literals as literals
use Rattle.dj_member_effects.specs.Literals.{Differ, Keeps, LiteralTable, kept_by, kept_map, literals_map, text_at}
use Rattle.dj_member_effects.specs.declared.literals.Kept as keeping
use Rattle.dj_member_effects.specs.declared.literals.Kept.TheVariants as kept
use Rattle.dj_member_effects.proofs.LiteralLaws.{keep_text_is, texts_kept}
use Rattle.dj_class_table.proofs.Numbered.{name_at-number, class_number-within}
use Rattle.dj_numbering.specs.Typed.{types_of, string_at}
use Rattle.dj_numbering.specs.Members.{all_fields}
use Rattle.dj_numbering.proofs.Reported.{type_of_class}
use Rattle.dj_image.specs.Imaged.{Imaged, program_of, typed_of}
use Rattle.dj_image.specs.Codes.{IsConstantAt}
use Rattle.dj_image.specs.Operands.{units_number, text_operand, value_operand}
use Rattle.dj_image.specs.declared.operand.Operand.{Operand}
use Rattle.dj_image.specs.declared.operand.Operand.TheVariants as operands
use Rattle.dj_initialisation.specs.declared.filled.Filled.{Filled}
use Rattle.dj_initialisation.specs.declared.filled.Filled.TheVariants as filled
use Rattle.dj_initialisation.specs.Store.{Store, store, stored, IsStore, AreTexts, Leads, Fills, FillsConstant, one_constant}
use Rattle.dj_initialisation.proofs.Members.{types_longer}
use Rattle.dj_initialisation.proofs.KnownLaws.{kept_known}

abbrev Doing : Type 0
Doing = Terms → State → Initialised

-- ---- one after the other

pub leads_begun : (imaged : Imaged) (whole : Terms → State → Initialised) (a : Store) → IsStore imaged a → Leads imaged whole whole a a
leads_begun imaged whole a are = record { effect = λ terms s e. refl; limit = refl; are = are; known = λ all. all }

pub leads_on : (imaged : Imaged) (whole one next : Terms → State → Initialised) (a b c : Store) → Leads imaged whole (λ terms s. then_ready (next terms) (one terms s)) a b
    → Fills imaged one b c filled.Done → Leads imaged whole next a c
leads_on imaged whole one next a b c first second = record {
  effect = λ terms s e. first.effect terms s e ∙ ap (then_ready (next terms)) (second.effect terms s (e ∙ ap Some (sym first.limit)));
  limit = second.limit ∙ first.limit;
  are = second.are;
  known = λ all. second.known (first.known all);
}

pub leads_to_full : (imaged : Imaged) (whole one next : Terms → State → Initialised) (a b c : Store) (used size : ℕ) → Leads imaged whole (λ terms s. then_ready (next terms) (one terms s)) a b
    → Fills imaged one b c (filled.HeapFull used size) → Fills imaged whole a c (filled.HeapFull used size)
leads_to_full imaged whole one next a b c used size first second = record {
  effect = λ terms s e. first.effect terms s e ∙ ap (then_ready (next terms)) (second.effect terms s (e ∙ ap Some (sym first.limit)));
  limit = second.limit ∙ first.limit;
  are = second.are;
  known = λ all. second.known (first.known all);
}

-- ---- numbers

with_value : (imaged : Imaged) (constant : Constant) (value : Value) (place bits : ℕ) (heap : LimitedHeap) (statics now : List ℕ) (table : LiteralTable)
    → ((terms : Terms) (s : State) → one_constant imaged place (Some constant) terms s ≡ Ready (with_static s place value))
    → bits ≡ field_bits value → now ≡ set statics place bits → IsStore imaged (store heap statics table)
    → Fills imaged (one_constant imaged place (Some constant)) (store heap statics table) (store heap now table) filled.Done
with_value imaged constant value place bits heap statics now table is reported_bits put are = record {
  effect = λ terms s e. is terms (stored imaged (store heap statics table) s)
      ∙ ap (λ (items : List ℕ). Ready (stored imaged (store heap items table) s)) (sym (put ∙ ap (set statics place) reported_bits));
  limit = refl;
  are = record { statics = ap length put ∙ length-set statics place bits ∙ are.statics; count = are.count; texts = are.texts };
  known = λ all. all;
}

abbrev FillsAs : Imaged → ℕ → Option Constant → LimitedHeap → List ℕ → LiteralTable → LimitedHeap → List ℕ → LiteralTable → Filled → Type 0
FillsAs imaged place constant heap statics table after now kept result = Fills imaged (one_constant imaged place constant) (store heap statics table) (store after now kept) result

-- ---- texts

string_type : (imaged : Imaged) (class : ℕ) → Some class ≡ string_at (typed_of imaged) → type_at (types_of (typed_of imaged)) class ≡ class_type (string_name imaged.prefix)
string_type imaged class is =
    type_of_class (program_of imaged) imaged.arrays class (class_number-within (program_of imaged) (string_name imaged.prefix) class (sym is))
    ∙ ap (λ (o : Option Name). class_type (unwrap_or o [])) (name_at-number (program_of imaged) (string_name imaged.prefix) class (sym is))

string_within : (imaged : Imaged) (class : ℕ) → Some class ≡ string_at (typed_of imaged) → class < length (types_of (typed_of imaged))
string_within imaged class is =
    let within = class_number-within (program_of imaged) (string_name imaged.prefix) class (sym is) in
    let longer = types_longer (typed_of imaged) in
    omega (arith, within, longer)

pub units_reported : (texts : List (List ℕ)) (text : ℕ) (units : List ℕ) → slice_get texts text ≡ Some units → text_at texts text ≡ units
units_reported texts text units is = ap (λ (o : Option (List ℕ)). unwrap_or o []) is

module _ (imaged : Imaged) (class text place : ℕ) (units : List ℕ) (before after : LimitedHeap) (statics : List ℕ) (table now : LiteralTable)
    (string : Some class ≡ string_at (typed_of imaged)) (texts : AreTexts imaged) (is : text_at imaged.texts text ≡ units) (known : text < length imaged.texts)
    (are : IsStore imaged (store before statics table)) where
  abbrev types : List Ty
  types = types_of (typed_of imaged)

  abbrev kept_in : State → Option members.Kept → Initialised
  kept_in s k = with_text s place (text_at imaged.texts text) k

  text_effect : (r : keeping.Kept) → Keeps class text units before after table now r → (terms : Terms) (s : State) → terms.limit ≡ Some before.limit
      → one_constant imaged place (Some (programs.Text (text_at imaged.texts text))) terms (stored imaged (store before statics table) s)
      ≡ kept_in (stored imaged (store before statics table) s) (option_map (kept_map types imaged.texts) (literals.kept_reported after now r))
  text_effect r k terms s e =
      ap (λ (limit : Option ℕ). kept_in (stored imaged (store before statics table) s)
      (with_literal limit imaged.prefix (heap_map (type_at types) before.heap) (literals_map imaged.texts table.made) (text_at imaged.texts text))) e
      ∙ ap (kept_in (stored imaged (store before statics table) s))
      (keep_text_is imaged.prefix types imaged.texts (Some before.limit) class text before.heap table.made (string_type imaged class string) texts.differ are.texts known
      ∙ ap (λ (us : List ℕ). option_map (kept_map types imaged.texts) (kept_by (Some before.limit) class text us before.heap table.made)) is
      ∙ ap (option_map (kept_map types imaged.texts)) k.effect)

  pub text_set : (r bits : ℕ) (put : List ℕ) → Keeps class text units before after table now (kept.Object r) → bits ≡ field_bits (values.Ref r) → put ≡ set statics place bits
      → Fills imaged (one_constant imaged place (Some (programs.Text (text_at imaged.texts text)))) (store before statics table) (store after put now) filled.Done
  text_set r bits put k reported_bits set_is = record {
    effect = λ terms s e. text_effect (kept.Object r) k terms s e
        ∙ ap (λ (items : List ℕ). Ready (stored imaged (store after items now) s)) (sym (set_is ∙ ap (set statics place) reported_bits));
    limit = k.limit;
    are = record {
      statics = ap length set_is ∙ length-set statics place bits ∙ are.statics;
      count = k.count ∙ are.count;
      texts = texts_kept (Some before.limit) class text (length imaged.texts) units before.heap table.made _ are.texts known k.effect;
    };
    known = kept_known types (Some before.limit) class text units before.heap table.made (record { object = r; heap = after.heap; literals = now.made }) (string_within imaged class string) k.effect;
  }

  pub text_full : (used size : ℕ) → Keeps class text units before after table now (kept.HeapFull used size)
      → Fills imaged (one_constant imaged place (Some (programs.Text (text_at imaged.texts text)))) (store before statics table) (store after statics now) (filled.HeapFull used size)
  text_full used size k = record {
    effect = λ terms s e. text_effect (kept.HeapFull used size) k terms s e ∙ ended terms s;
    limit = k.limit;
    are = record { statics = are.statics; count = k.count ∙ are.count; texts = subst (λ (t : LiteralTable). literals.AreTexts (length imaged.texts) t.made) (sym k.full.3) are.texts };
    known = subst (λ (h : LimitedHeap). AreKnown types h) (sym k.full.2);
  } where
    ended : (terms : Terms) (s : State)
        → Fails (outcomes.HeapFull before.heap.used (text_size (text_at imaged.texts text))) (stored imaged (store before statics table) s)
        ≡ Fails (outcomes.HeapFull used size) (stored imaged (store after statics now) s)
    ended terms s =
        ap (λ (n : ℕ). Fails (outcomes.HeapFull n (text_size (text_at imaged.texts text))) (stored imaged (store before statics table) s)) (sym k.full.0)
        ∙ ap (λ (n : ℕ). Fails (outcomes.HeapFull used n) (stored imaged (store before statics table) s)) (ap text_size is ∙ sym k.full.1)
        ∙ ap (λ (h : LimitedHeap). Fails (outcomes.HeapFull used size) (stored imaged (store h statics table) s)) (sym k.full.2)
        ∙ ap (λ (t : LiteralTable). Fails (outcomes.HeapFull used size) (stored imaged (store after statics t) s)) (sym k.full.3)

-- ---- the constant of a field

int_reported : (imaged : Imaged) (constant : Option Constant) (z : ℤ) → value_operand imaged constant ≡ operands.Int z → constant ≡ Some (programs.Int z)
int_reported imaged None z e = absurd cc
int_reported imaged (Some (programs.Int y)) z e = let same : y ≡ z = cc in ap (λ (x : ℤ). Some (programs.Int x)) same
int_reported imaged (Some (programs.Long y)) z e = absurd cc
int_reported imaged (Some (programs.Text units)) z e = by (units_number imaged.texts units) e where
  by : (o : Option ℕ) → text_operand o ≡ operands.Int z → Some (programs.Text units) ≡ Some (programs.Int z)
  by None e = absurd cc
  by (Some n) e = absurd cc
int_reported imaged (Some programs.Unfit) z e = absurd cc

long_reported : (imaged : Imaged) (constant : Option Constant) (z : ℤ) → value_operand imaged constant ≡ operands.Long z → constant ≡ Some (programs.Long z)
long_reported imaged None z e = absurd cc
long_reported imaged (Some (programs.Int y)) z e = absurd cc
long_reported imaged (Some (programs.Long y)) z e = let same : y ≡ z = cc in ap (λ (x : ℤ). Some (programs.Long x)) same
long_reported imaged (Some (programs.Text units)) z e = by (units_number imaged.texts units) e where
  by : (o : Option ℕ) → text_operand o ≡ operands.Long z → Some (programs.Text units) ≡ Some (programs.Long z)
  by None e = absurd cc
  by (Some n) e = absurd cc
long_reported imaged (Some programs.Unfit) z e = absurd cc

-- the text of a number, as one begins with it
record IsText (imaged : Imaged) (constant : Option Constant) (text : ℕ) : Type 0 where
  units : List ℕ
  is : constant ≡ Some (programs.Text units)
  number : units_number imaged.texts units ≡ Some text

text_reported : (imaged : Imaged) (constant : Option Constant) (text : ℕ) → value_operand imaged constant ≡ operands.Text text → IsText imaged constant text
text_reported imaged None text e = absurd cc
text_reported imaged (Some (programs.Int y)) text e = absurd cc
text_reported imaged (Some (programs.Long y)) text e = absurd cc
text_reported imaged (Some (programs.Text units)) text e = by (units_number imaged.texts units) refl e where
  by : (o : Option ℕ) → units_number imaged.texts units ≡ o → text_operand o ≡ operands.Text text → IsText imaged (Some (programs.Text units)) text
  by None is e = absurd cc
  by (Some n) is e = let same : n ≡ text = cc in record { units = units; is = refl; number = is ∙ ap Some same }
text_reported imaged (Some programs.Unfit) text e = absurd cc

-- a text that has a number stands there
pub units_at : (texts : List (List ℕ)) (units : List ℕ) (n : ℕ) → units_number texts units ≡ Some n → slice_get texts n ≡ Some units
units_at [] units n e = absurd (none-some n e)
units_at (x ∷ texts) units n e = by (same_name x units) refl (units_number texts units) (units_at texts units) n e where
  by : (b : Bool) → same_name x units ≡ b → (o : Option ℕ) → ((j : ℕ) → o ≡ Some j → slice_get texts j ≡ Some units)
      → (n : ℕ) → (if b then Some 0 else option_map suc o) ≡ Some n → slice_get (x ∷ texts) n ≡ Some units
  by true same o later zero f = ap Some ((bytes_decides x units).0 same)
  by true same o later (suc k) f = absurd cc
  by false same None later k f = absurd cc
  by false same (Some j) later k f = subst (λ (k : ℕ). slice_get (x ∷ texts) k ≡ Some units) {x = suc j} {y = k} (cc) (later j refl)

module _ (imaged : Imaged) (field : ℕ) (operand : Operand) (at : IsConstantAt imaged field operand) (found : FoundField) (there : slice_get (all_fields (program_of imaged)) field ≡ Some found) where
  pub constant_is : operand ≡ value_operand imaged found.field.constant
  constant_is = at.is ∙ ap (λ (f : FoundField). value_operand imaged f.field.constant) (same_Some at.found found (sym at.there ∙ there))

  pub int_is : (z : ℤ) → operand ≡ operands.Int z → found.field.constant ≡ Some (programs.Int z)
  int_is z e = int_reported imaged found.field.constant z (sym constant_is ∙ e)

  pub long_is : (z : ℤ) → operand ≡ operands.Long z → found.field.constant ≡ Some (programs.Long z)
  long_is z e = long_reported imaged found.field.constant z (sym constant_is ∙ e)

  pub text_is : (text : ℕ) → operand ≡ operands.Text text → found.field.constant ≡ Some (programs.Text (text_at imaged.texts text))
  text_is text e =
      let t = text_reported imaged found.field.constant text (sym constant_is ∙ e) in
      t.is ∙ ap (λ (us : List ℕ). Some (programs.Text us)) (sym (units_reported imaged.texts text t.units (units_at imaged.texts t.units text t.number)))

-- a number of a text that a constant has
pub text_known : (imaged : Imaged) (field text : ℕ) → IsConstantAt imaged field (operands.Text text) → text < length imaged.texts
text_known imaged field text at =
    let t = text_reported imaged at.found.field.constant text (sym at.is) in
    slice_get_within imaged.texts text t.units (units_at imaged.texts t.units text t.number)

pub int_set : (imaged : Imaged) (field place bits : ℕ) (z : ℤ) (operand : Operand) (heap : LimitedHeap) (statics now : List ℕ) (table : LiteralTable)
    → IsConstantAt imaged field operand → operand ≡ operands.Int z → bits ≡ field_bits (values.Int z) → now ≡ set statics place bits → IsStore imaged (store heap statics table)
    → FillsConstant imaged place field (store heap statics table) (store heap now table) filled.Done
int_set imaged field place bits z operand heap statics now table at is reported_bits put are found there =
    subst (λ (constant : Option Constant). Fills imaged (one_constant imaged place constant) (store heap statics table) (store heap now table) filled.Done)
    (sym (int_is imaged field operand at found there z is))
    (with_value imaged (programs.Int z) (values.Int z) place bits heap statics now table (λ terms s. refl) reported_bits put are)

pub long_set : (imaged : Imaged) (field place bits : ℕ) (z : ℤ) (operand : Operand) (heap : LimitedHeap) (statics now : List ℕ) (table : LiteralTable)
    → IsConstantAt imaged field operand → operand ≡ operands.Long z → bits ≡ field_bits (values.Long z) → now ≡ set statics place bits → IsStore imaged (store heap statics table)
    → FillsConstant imaged place field (store heap statics table) (store heap now table) filled.Done
long_set imaged field place bits z operand heap statics now table at is reported_bits put are found there =
    subst (λ (constant : Option Constant). Fills imaged (one_constant imaged place constant) (store heap statics table) (store heap now table) filled.Done)
    (sym (long_is imaged field operand at found there z is))
    (with_value imaged (programs.Long z) (values.Long z) place bits heap statics now table (λ terms s. refl) reported_bits put are)

pub text_constant : (imaged : Imaged) (field place text : ℕ) (operand : Operand) (before after : Store) (result : Filled)
    → IsConstantAt imaged field operand → operand ≡ operands.Text text → Fills imaged (one_constant imaged place (Some (programs.Text (text_at imaged.texts text)))) before after result
    → FillsConstant imaged place field before after result
text_constant imaged field place text operand before after result at is fills found there =
    subst (λ (constant : Option Constant). Fills imaged (one_constant imaged place constant) before after result) (sym (text_is imaged field operand at found there text is)) fills

-- an operand that is neither sets nothing
pub nothing_reported : (imaged : Imaged) (found : FoundField) (operand : Operand) → operand ≡ value_operand imaged found.field.constant
    → ((z : ℤ) → operand ≡ operands.Int z → ⊥) → ((z : ℤ) → operand ≡ operands.Long z → ⊥) → ((text : ℕ) → operand ≡ operands.Text text → ⊥)
    → ((units : List ℕ) → found.field.constant ≡ Some (programs.Text units) → (n : ℕ) × (units_number imaged.texts units ≡ Some n))
    → (place : ℕ) (terms : Terms) (s : State) → one_constant imaged place found.field.constant terms s ≡ Ready s
nothing_reported imaged found operand is int long text numbered place terms s = by found.field.constant refl where
  by : (o : Option Constant) → found.field.constant ≡ o → one_constant imaged place o terms s ≡ Ready s
  by None e = refl
  by (Some (programs.Int z)) e = absurd (int z (is ∙ ap (value_operand imaged) e))
  by (Some (programs.Long z)) e = absurd (long z (is ∙ ap (value_operand imaged) e))
  by (Some (programs.Text units)) e =
      let n = numbered units e in
      absurd (text n.0 (is ∙ ap (value_operand imaged) e ∙ ap text_operand n.1))
  by (Some programs.Unfit) e = refl
