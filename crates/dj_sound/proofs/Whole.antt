-- The programs of accepted files and a library are sound.
use Rattle.std.proofs.Common.{◌≡◌, List, [], Option, Some, None, Contains, sym, ap, subst, inl, inr}
use Rattle.dj_edge.specs.trusted.Held.{File}
use Rattle.dj_names.specs.trusted.Library.{Library, deterministic_library, raw_library}
use Rattle.dj_names.specs.declared.native.NativeId.{NativeId}
use Rattle.dj_class.specs.trusted.ClassFile.{ClassFile}
use Rattle.dj_model.specs.trusted.Program.{Program, Class, Method}
use Rattle.dj_model.specs.trusted.Libraries.{library_body, library_method, library_program}
use Rattle.dj_model.specs.Sound.{IsProgram, IsSoundBody, IsSoundClass, IsSound}
use Rattle.dj_loader.proofs.Lists.{of_map}
use Rattle.dj_program.specs.trusted.Programs.{IsProgramIn}
use Rattle.dj_declarations.specs.trusted.Files.{declared_program}
use Rattle.dj_sound.specs.Accepted.{IsAcceptedBy, OfAcceptedBy}
use Rattle.dj_sound.specs.Laws.{HasBodies, HaveBodies, IsSoundProgram, AcceptedIsSound}
use Rattle.dj_sound.proofs.Origins.{IsAlike, deterministic_alike, raw_alike, IsOfFile, IsRow, origin, bare}
use Rattle.dj_sound.proofs.Names.{rising}
use Rattle.dj_sound.proofs.Members.{IsSoundLibrary, deterministic_sound, raw_sound, row_member, members}
use Rattle.dj_sound.proofs.Ends.{ends}
use Rattle.dj_sound.proofs.Hierarchy.{hierarchy}
use Rattle.dj_sound.proofs.Constants.{constants}
use Rattle.dj_sound.proofs.Codes.{body_cases, method_of_file, codes}
use Rattle.dj_sound.proofs.Operands.{Sees, sees_bare}
use Rattle.dj_sound.proofs.Methods.{HidesConstructor, deterministic_hides, raw_hides, sound_code}
use Rattle.dj_sound.proofs.Raw.{raw_seen}

-- ---- bodies

-- the methods of a library are native or abstract, and what natives take doesn't depend on the program
row_body : (small large : Program) (m : Method) (native : Option NativeId) → m.body ≡ library_body native → IsSoundBody small [] m m.body → IsSoundBody large [] m m.body
row_body small large m None e is = subst (IsSoundBody large [] m) (sym e) tt
row_body small large m (Some id) e is = subst (IsSoundBody large [] m) (sym e) (subst (IsSoundBody small [] m) e is)

row_bodies : (library : Library) → IsSoundLibrary library → (program : Program) (class : Class) → IsRow library class → (m : Method) → Contains class.methods m → IsSoundBody program [] m m.body
row_bodies library sound program class row m own =
    let (named, listed, same) = row in
    let (reported, there, is) = of_map library_method named.methods m (subst (λ (c : Class). Contains c.methods m) (sym same) own) in
    row_body (library_program library) program m reported.native (ap (λ (x : Method). x.body) (sym is)) ((sound.classes class (row_member library class row)).bodies m own)

file_bodies : {judge : Library} → HidesConstructor judge → (files : List File) (classes : List ClassFile) (program : Program) → IsAcceptedBy judge files classes → Sees (declared_program judge classes) program
    → (class : Class) → IsOfFile files classes class → (m : Method) → Contains class.methods m → IsSoundBody program [] m m.body
file_bodies hides files classes program accepted sees class of m own =
    let (info, listed, such) = method_of_file files classes class of m own in
    elim (body_cases of.read.pool info m such) [
      | inl e ↦ subst (IsSoundBody program [] m) (sym e) tt
      | inr (parts, code, e) ↦ subst (IsSoundBody program [] m) (sym e) (sound_code files classes accepted hides program sees class of info listed parts code m such)
    ]

-- what the rules found is in the program
abbrev pub SeesAccepted : Library → Library → Type 0
SeesAccepted judge library =
    (files : List File) (classes : List ClassFile) (program : Program) → IsAcceptedBy judge files classes → IsProgramIn library classes program → Sees (declared_program judge classes) program

-- where they judged with its library
own_seen : (library : Library) → SeesAccepted library library
own_seen library files classes program accepted is =
    subst (λ (p : Program). Sees p program) (bare library files classes program accepted.good is) (sees_bare program)

pub bodies : {judge : Library} → HidesConstructor judge → (library : Library) → IsSoundLibrary library → SeesAccepted judge library → OfAcceptedBy judge library HasBodies
bodies hides library sound seen files classes program accepted is class there m own =
    elim (origin library files classes program accepted.good is class there) [
      | inl of ↦ file_bodies hides files classes program accepted (seen files classes program accepted is) class of m own
      | inr row ↦ row_bodies library sound program class row m own
    ]

pub have_bodies : HaveBodies
have_bodies = record {
  deterministic = bodies deterministic_hides deterministic_library deterministic_sound (own_seen deterministic_library);
  raw = bodies deterministic_hides raw_library raw_sound raw_seen;
}

-- ---- all together

module _ {judge : Library} (hides : HidesConstructor judge) (library : Library) (alike : IsAlike library) (sound : IsSoundLibrary library) (seen : SeesAccepted judge library) (files : List File) (classes : List ClassFile) (program : Program) (accepted : IsAcceptedBy judge files classes)
    (is : IsProgramIn library classes program) where
  formed : IsProgram program
  formed = record {
    names = rising library alike files classes program accepted is;
    classes = λ c there.
        let apart = members library sound files classes program accepted is c there in
        record {
          fields = apart.0;
          methods = apart.1;
          ends = ends library alike sound files classes program accepted is c there;
          codes = codes library sound files classes program accepted is c there;
        };
  }

  sound_class : (c : Class) → Contains program c → IsSoundClass program [] c
  sound_class c there =
      let upward = hierarchy library alike sound files classes program accepted is c there in
      record {
        fields = constants library sound files classes program accepted is c there;
        bodies = bodies hides library sound seen files classes program accepted is c there;
        interfaces = upward.interfaces;
        above_interface = upward.above_interface;
        above = upward.above;
        above_stop = upward.above_stop;
      }

  pub is_sound : IsSound program []
  is_sound = record { formed = formed; classes = sound_class }

pub accepted_is_sound : AcceptedIsSound
accepted_is_sound = record {
  deterministic = is_sound deterministic_hides deterministic_library deterministic_alike deterministic_sound (own_seen deterministic_library);
  raw = is_sound deterministic_hides raw_library raw_alike raw_sound raw_seen;
}

-- where the rules judged with the raw library
pub raw_accepted_is_sound : OfAcceptedBy raw_library raw_library IsSoundProgram
raw_accepted_is_sound = is_sound raw_hides raw_library raw_alike raw_sound (own_seen raw_library)
