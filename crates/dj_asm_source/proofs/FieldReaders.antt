-- The readers of one token each, with their languages.
use Rattle.std.proofs.Common.{◌≡◌, ◌↔◌, ℕ, Bool, true, ℤ, pos, List, [], Option, None, codes, refl, inl, arith}
use Rattle.std.specs.Prelude.{⊤}
use Rattle.dj_names.specs.trusted.Types.{Name}
use Rattle.dj_names.specs.trusted.ModifiedUtf8.{units_text}
use Rattle.dj_names.specs.trusted.Names.{IsUnqualifiedName, IsMethodName, IsClassName}
use Rattle.dj_names.specs.trusted.Descriptors.{IsFieldDescriptor, IsMethodDescriptor, IsArrayDescriptor}
use Rattle.dj_names.specs.Tests.{unqualified_name_test, method_name_test, class_name_test, field_descriptor_test, method_descriptor_test, array_descriptor_test}
use Rattle.dj_names.specs.trusted.NameReading.{reads_class_name}
use Rattle.dj_names.specs.trusted.DescReading.{field_read, method_read, type_read, dims_read, of_read, params_read, return_read}
use Rattle.dj_names.proofs.TestLaws.{unqualified_name_test-decides, method_name_test-decides, class_name_test-decides, field_descriptor_test-decides, method_descriptor_test-decides, array_descriptor_test-decides}
use Rattle.dj_ops.specs.trusted.Instructions.{IsArrayType}
use Rattle.dj_pool.specs.trusted.Pool.{IsClassText}
use Rattle.dj_asm_tokens.specs.trusted.Words.{Token, Word, Quoted, LineEnd}
use Rattle.dj_asm_source.specs.trusted.Items.{Item, Exactly, Flags, Number, Text, Ended, SaysFlags, SaysPlainNumber}
use Rattle.dj_asm_tokens.specs.trusted.Mnemonics.{base_word}
use Rattle.dj_asm_source.specs.trusted.Lines.{Label, FrameType, Simple, IsFrameType, type_item, catch_item, called}
use Rattle.dj_asm_tokens.specs.WordReading.{class_text_test}
use Rattle.dj_asm_source.specs.Reading.{one, any_size, word_of, string_of, end_of, exactly, flags_of, number_of, name_of, caught_of, type_of, base_of}
use Rattle.dj_asm_source.specs.LineReading.{line_end, flags, number, name, label, string, keyword, frame_type, base, caught}
use Rattle.dj_asm_source.proofs.Readers.{Lang, IsReader}
use Rattle.dj_asm_source.proofs.Choices.{single, IsReported, IsInhabited, one_reads}
use Rattle.dj_asm_source.proofs.WordLaws.{end_reported, string_reported, label_reported, exactly_reported, flags_reported, number_reported, any_decides, name_reported, class_text_decides}
use Rattle.dj_asm_source.proofs.TypeWords.{base_reported, type_reported, caught_reported, IsCaught}

abbrev pub all : {A : Type 0} → A → Type 0
all a = ⊤

-- ---- without a size

module _ {A : Type 0} (item : A → Item) (is : A → Type 0) (says : Token → Option A) (reported : IsReported item is says) (some : IsInhabited item is all) where
  pub plain_reads : IsReader (single item is all) (one says any_size)
  plain_reads = one_reads item is all says any_size reported any_decides some

abbrev pub end_lang : Lang ⊤
end_lang = single (λ x. Ended) all all

pub end_reads : IsReader end_lang line_end
end_reads = plain_reads (λ (x : ⊤). Ended) all end_of end_reported (record { value = tt; token = LineEnd; allowed = tt; sized = tt; said = refl })

abbrev pub flags_lang : Lang ℕ
flags_lang = single Flags all all

one_flag : SaysFlags 1 (Word (codes "1"))
one_flag = record { digits = codes "1"; word = refl; numeral = (omega arith, (omega arith, tt)); few = omega arith; value = refl }

pub flags_reads : IsReader flags_lang flags
flags_reads = plain_reads Flags all flags_of flags_reported (record { value = 1; token = Word (codes "1"); allowed = tt; sized = tt; said = one_flag })

abbrev pub label_lang : Lang Label
label_lang = single Exactly all all

pub label_reads : IsReader label_lang label
label_reads = plain_reads Exactly all word_of label_reported (record { value = []; token = Word []; allowed = tt; sized = tt; said = refl })

abbrev pub string_lang : Lang (List ℕ)
string_lang = single Text all all

pub string_reads : IsReader string_lang string
string_reads = plain_reads Text all string_of string_reported (record { value = []; token = Quoted []; allowed = tt; sized = tt; said = refl })

abbrev pub keyword_lang : List ℕ → Lang ⊤
keyword_lang word = single (λ x. Exactly word) all all

pub keyword_reads : (word : List ℕ) → IsReader (keyword_lang word) (keyword word)
keyword_reads word = plain_reads (λ (x : ⊤). Exactly word) all (exactly word) (exactly_reported word) (record { value = tt; token = Word word; allowed = tt; sized = tt; said = refl })

abbrev pub type_lang : Lang FrameType
type_lang = single type_item IsFrameType all

pub type_reads : IsReader type_lang frame_type
type_reads = plain_reads type_item IsFrameType type_of type_reported (record { value = Simple (codes "top"); token = Word (codes "top"); allowed = inl refl; sized = tt; said = refl })

abbrev pub base_lang : Lang ℕ
base_lang = single (λ b. Exactly (base_word b)) IsArrayType all

pub base_reads : IsReader base_lang base
base_reads =
    plain_reads (λ b. Exactly (base_word b)) IsArrayType base_of base_reported
    (record { value = 4; token = Word (codes "boolean"); allowed = (omega arith, omega arith); sized = tt; said = refl })

abbrev pub caught_lang : Lang (Option Name)
caught_lang = single catch_item IsCaught all

pub caught_reads : IsReader caught_lang caught
caught_reads = plain_reads catch_item IsCaught caught_of caught_reported (record { value = None; token = Word (codes "any"); allowed = tt; sized = tt; said = refl })

-- ---- numbers

abbrev pub number_lang : (ℤ → Type 0) → Lang ℤ
number_lang fits = single Number all fits

pub one_number : SaysPlainNumber (pos 1) (Word (codes "1"))
one_number = record { digits = codes "1"; word = refl; numeral = (omega arith, (omega arith, tt)); value = refl }

pub number_reads : (test : ℤ → Bool) (fits : ℤ → Type 0) → ((z : ℤ) → (test z ≡ true) ↔ fits z) → test (pos 1) ≡ true → IsReader (number_lang fits) (number test)
number_reads test fits decides e =
    one_reads Number all fits number_of test number_reported decides
    (record { value = pos 1; token = Word (codes "1"); allowed = tt; sized = (decides (pos 1)).0 e; said = inl one_number })

-- ---- names

abbrev pub name_lang : (Name → Type 0) → Lang Name
name_lang is = single called is all

pub name_reads : (test : List ℕ → Bool) (is : Name → Type 0) → ((text : List ℕ) → (test text ≡ true) ↔ is text) → (text : List ℕ) → test text ≡ true → text ≡ units_text text
    → IsReader (name_lang is) (name test)
name_reads test is decides text e plain =
    plain_reads called is (name_of test) (name_reported test is decides)
    (record { value = text; token = Word text; allowed = (decides text).0 e; sized = tt; said = record { units = text; word = refl; value = plain } })

pub class_name_reads : IsReader (name_lang IsClassName) (name class_name_test)
unfolding class_name_test reads_class_name
class_name_reads = name_reads class_name_test IsClassName class_name_test-decides (codes "A") refl refl

pub class_text_reads : IsReader (name_lang IsClassText) (name class_text_test)
unfolding class_name_test reads_class_name
class_text_reads = name_reads class_text_test IsClassText class_text_decides (codes "A") refl refl

pub field_name_reads : IsReader (name_lang IsUnqualifiedName) (name unqualified_name_test)
unfolding unqualified_name_test
field_name_reads = name_reads unqualified_name_test IsUnqualifiedName unqualified_name_test-decides (codes "A") refl refl

pub method_name_reads : IsReader (name_lang IsMethodName) (name method_name_test)
unfolding method_name_test unqualified_name_test
method_name_reads = name_reads method_name_test IsMethodName method_name_test-decides (codes "A") refl refl

pub field_desc_reads : IsReader (name_lang IsFieldDescriptor) (name field_descriptor_test)
unfolding field_descriptor_test field_read type_read dims_read of_read
field_desc_reads = name_reads field_descriptor_test IsFieldDescriptor field_descriptor_test-decides (codes "I") refl refl

pub array_desc_reads : IsReader (name_lang IsArrayDescriptor) (name array_descriptor_test)
unfolding array_descriptor_test field_read type_read dims_read of_read
array_desc_reads = name_reads array_descriptor_test IsArrayDescriptor array_descriptor_test-decides (codes "[I") refl refl

pub method_desc_reads : IsReader (name_lang IsMethodDescriptor) (name method_descriptor_test)
unfolding method_descriptor_test method_read params_read return_read
method_desc_reads = name_reads method_descriptor_test IsMethodDescriptor method_descriptor_test-decides (codes "()V") refl refl
