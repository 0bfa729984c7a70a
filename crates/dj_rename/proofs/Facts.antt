-- Renamed texts and a renamed pool by plain values, each with something that it is not.
use Rattle.std.proofs.Common.{◌≡◌, List, [], ◌∷◌, map, length, Some, None, refl, codes}
use Rattle.std.specs.Prelude.{slice_get}
use Rattle.dj_names.specs.trusted.NameReading.{reads_class_name}
use Rattle.dj_names.specs.trusted.DescReading.{desc_read, method_read, params_read, type_read, dims_read, of_read, class_read, name_read, return_read, field_read}
use Rattle.dj_pool.specs.trusted.Pool.{Constant, Utf8, Class, Text, NameAndType, Method}
use Rattle.dj_declarations.specs.trusted.Files.{type_in, desc_in}
use Rattle.dj_rename.specs.declared.error.RenameError.TheVariants as errors
use Rattle.dj_rename.specs.Names.{renamed_class, renamed_desc, plain_text}
use Rattle.dj_rename.specs.Pools.{Need, needs, first_places, appended_texts, renamed_pool, renamed_descs, accounter_constants, rewritten_pool}
use Rattle.dj_rename.specs.Refusals.{refusal_at, refusal_from, refusal}

-- ---- one text

names : map renamed_class (codes "a/B" ∷ codes "[La/B;" ∷ codes "[I" ∷ codes "I" ∷ []) ≡ codes "sandbox/a/B" ∷ codes "[Lsandbox/a/B;" ∷ codes "[I" ∷ codes "sandbox/I" ∷ []
unfolding renamed_class type_in desc_in desc_read method_read params_read type_read dims_read of_read class_read name_read reads_class_name return_read field_read
names = refl

-- a name that is in the package already is renamed too
twice : renamed_class (codes "sandbox/A") ≡ codes "sandbox/A" → ⊥
unfolding renamed_class type_in desc_in desc_read method_read params_read type_read dims_read of_read class_read name_read reads_class_name return_read field_read
twice e = absurd cc

plain : map plain_text (codes "sandbox/a/B" ∷ codes "[Lsandbox/a/B;" ∷ codes "[I" ∷ codes "a/sandbox/B" ∷ codes "sandbox/sandbox/A" ∷ [])
    ≡ codes "a/B" ∷ codes "[La/B;" ∷ codes "[I" ∷ codes "a/sandbox/B" ∷ codes "sandbox/A" ∷ []
unfolding plain_text type_in desc_in desc_read method_read params_read type_read dims_read of_read class_read name_read reads_class_name return_read field_read
plain = refl

descriptors : map renamed_desc (codes "([La/B;I)V" ∷ codes "La/B;" ∷ codes "(I)LI;" ∷ codes "[J" ∷ []) ≡ codes "([Lsandbox/a/B;I)V" ∷ codes "Lsandbox/a/B;" ∷ codes "(I)Lsandbox/I;" ∷ codes "[J" ∷ []
unfolding renamed_desc desc_in desc_read method_read params_read type_read dims_read of_read class_read name_read reads_class_name return_read field_read
descriptors = refl

-- ---- a pool: class A with the superclass java/lang/Object, and a method's descriptor that stays

row : List Constant
row = Utf8 (codes "A") ∷ Class 1 ∷ Utf8 (codes "java/lang/Object") ∷ Class 3 ∷ Utf8 (codes "verify") ∷ Utf8 (codes "([B)[B") ∷ Utf8 (codes "Code") ∷ []

row_texts : appended_texts row (6 ∷ []) ≡ codes "sandbox/A" ∷ codes "sandbox/java/lang/Object" ∷ []
unfolding row appended_texts first_places needs renamed_class renamed_desc type_in desc_in desc_read method_read params_read type_read dims_read of_read class_read name_read reads_class_name return_read field_read
row_texts = refl

row_pool : renamed_pool row (codes "sandbox/A" ∷ codes "sandbox/java/lang/Object" ∷ [])
    ≡ Utf8 (codes "A") ∷ Class 8 ∷ Utf8 (codes "java/lang/Object") ∷ Class 9 ∷ Utf8 (codes "verify") ∷ Utf8 (codes "([B)[B") ∷ Utf8 (codes "Code")
    ∷ Utf8 (codes "sandbox/A") ∷ Utf8 (codes "sandbox/java/lang/Object") ∷ []
unfolding row renamed_pool renamed_class renamed_desc type_in desc_in desc_read method_read params_read type_read dims_read of_read class_read name_read reads_class_name return_read field_read
row_pool = refl

row_descs : renamed_descs row (codes "sandbox/A" ∷ codes "sandbox/java/lang/Object" ∷ []) (6 ∷ []) ≡ 6 ∷ []
unfolding row renamed_class renamed_desc type_in desc_in desc_read method_read params_read type_read dims_read of_read class_read name_read reads_class_name return_read field_read
row_descs = refl

row_fits : refusal row (6 ∷ []) ≡ None
unfolding row refusal refusal_from needs renamed_class renamed_desc type_in desc_in desc_read method_read params_read type_read dims_read of_read class_read name_read reads_class_name return_read field_read
row_fits = refl

row_whole : length (rewritten_pool row (6 ∷ [])) ≡ 35
unfolding row rewritten_pool renamed_pool accounter_constants appended_texts first_places needs renamed_class renamed_desc type_in desc_in desc_read method_read params_read type_read dims_read of_read class_read name_read reads_class_name return_read field_read
row_whole = refl

-- ---- one text as a class's name and as a string: only the class gets another one, and an equal text of the pool is not taken for it

shared : List Constant
shared = Utf8 (codes "LA;") ∷ Utf8 (codes "A") ∷ Class 2 ∷ Text 2 ∷ Utf8 (codes "sandbox/A") ∷ NameAndType 2 1 ∷ Class 2 ∷ []

shared_texts : appended_texts shared (1 ∷ []) ≡ codes "sandbox/A" ∷ codes "Lsandbox/A;" ∷ []
unfolding shared appended_texts first_places needs renamed_class renamed_desc type_in desc_in desc_read method_read params_read type_read dims_read of_read class_read name_read reads_class_name return_read field_read
shared_texts = refl

shared_pool : renamed_pool shared (codes "sandbox/A" ∷ codes "Lsandbox/A;" ∷ [])
    ≡ Utf8 (codes "LA;") ∷ Utf8 (codes "A") ∷ Class 8 ∷ Text 2 ∷ Utf8 (codes "sandbox/A") ∷ NameAndType 2 9 ∷ Class 8 ∷ Utf8 (codes "sandbox/A") ∷ Utf8 (codes "Lsandbox/A;") ∷ []
unfolding shared renamed_pool renamed_class renamed_desc type_in desc_in desc_read method_read params_read type_read dims_read of_read class_read name_read reads_class_name return_read field_read
shared_pool = refl

-- ---- where a text has no index, or is too long: at 65,534, and at 65,535

abbrev need : Need
need = record { of = 2; index = 1; text = codes "sandbox/A" }

last : refusal_at 65534 need ≡ None
last = refl

past : refusal_at 65535 need ≡ Some errors.Full
past = refl

past_not_none : refusal_at 65535 need ≡ None → ⊥
past_not_none e = absurd cc

-- ---- the accounter's constants

accounter : slice_get (accounter_constants 10) 5 ≡ Some (Method 11 14)
unfolding accounter_constants
accounter = refl
