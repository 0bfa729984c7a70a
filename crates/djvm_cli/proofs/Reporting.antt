-- From the steps of a job to its report.
use Rattle.std.proofs.Common.{◌≡◌, ℕ, ◌<◌, ◌≤◌, List, [], ◌∷◌, ◌++◌, length, map, All, IsTrue, Option, Some, None, IsSome, IfSome, string_bytes, vec_len, unwrap_or, refl, sym, ap, ◌∙◌, subst, inl, inr, arith}
use Rattle.std.specs.Prelude.{is_some}
use Rattle.std.specs.Global.{Vec}
use Rattle.dj_edge.specs.declared.host.HostAnswer.{HostAnswer}
use Rattle.dj_edge.specs.InMemory.{String}
use Rattle.std.proofs.lemmas.List.{length-map}
use Rattle.std.proofs.lemmas.Simd.{map-map}
use Rattle.std.proofs.lemmas.List.Elements.{All-head, All-tail, All-map, All-weaker}
use Rattle.dj_edge.specs.trusted.Held.{File, Held, class_files, is_class_path, bytes_at}
use Rattle.dj_edge.specs.trusted.Counts.{GrowsByPrefix}
use Rattle.dj_edge.proofs.Growth.{IsPrefix-append, GrowsByPrefix-after, GrowsByPrefix-within}
use Rattle.dj_edge.proofs.Listings.{class_files_held}
use Rattle.dj_edge.proofs.Lists.{reported_so, both_reported, All-unmap}
use Rattle.dj_report.specs.trusted.Stages.{IsDecided}
use Rattle.dj_report.specs.declared.report.Report.{Report}
use Rattle.dj_report.specs.declared.report.Report.TheVariants as reports
use Rattle.dj_report.specs.declared.report.Limit.{Limit}
use Rattle.dj_report.specs.declared.report.Limit.TheVariants as limits
use Rattle.dj_class_set.specs.ClassSets.{TextsRise, PathsRise}
use Rattle.dj_class_set.specs.trusted.Limits.{most_files, AreWithin}
use Rattle.djvm_cli.specs.declared.load.SourceFile.{SourceFile}
use Rattle.djvm_cli.specs.declared.load.Listing.{Listing}
use Rattle.djvm_cli.specs.declared.load.Listing.TheVariants as listings
use Rattle.djvm_cli.specs.declared.load.Loaded.{Loaded}
use Rattle.djvm_cli.specs.declared.load.Loaded.TheVariants as loads
use Rattle.djvm_cli.specs.declared.load.Input.{Input}
use Rattle.djvm_cli.specs.declared.load.Input.TheVariants as inputs
use Rattle.djvm_cli.specs.Inputs.{IsJobInput}
use Rattle.dj_command_line.specs.trusted.DoneJobs.{FolderJob}
use Rattle.djvm_cli.specs.trusted.Jobs.{folder_of}
use Rattle.djvm_cli.specs.trusted.Report.{input_asks, CountsFiles, FindsInput, ReadsFiles, judging, folder_stages, input_of, within_folder, files_within}
use Rattle.djvm_cli.specs.Steps.{files_at, IsListed, AreClassPaths, AreRising, AreRead, IsLoaded}
use Rattle.djvm_cli.specs.Views.{source_view}
use Rattle.djvm_cli.specs.trusted.Engine.{Reaches}
use Rattle.djvm_cli.proofs.Same.{job_input_one, files_one}
use Rattle.djvm_cli.proofs.Leaving.{IsReached}

abbrev path_of : File → List ℕ
path_of file = file.0

abbrev class_paths : List ℕ → Held → List (List ℕ)
class_paths folder h = map path_of (class_files folder h)

-- ---- what is held under the class files' paths

at_same : (h : Held) (files : List File) → All (λ file. bytes_at h file.0 ≡ Some file.1) files → files_at h (map path_of files) ≡ files
at_same h [] all = refl
at_same h (file ∷ files) all =
    let found : bytes_at h file.0 ≡ Some file.1 = All-head (λ file. bytes_at h file.0 ≡ Some file.1) file files all in
    let bytes : unwrap_or (bytes_at h file.0) [] ≡ file.1 = ap (λ o. unwrap_or o []) found in
    let rest : files_at h (map path_of files) ≡ files = at_same h files (All-tail (λ file. bytes_at h file.0 ≡ Some file.1) file files all) in
    λ i. (file.0, bytes i) ∷ rest i

pub files_same : (folder : List ℕ) (h : Held) (texts : List (List ℕ)) → texts ≡ class_paths folder h → files_at h texts ≡ class_files folder h
files_same folder h texts same = ap (files_at h) same ∙ at_same h (class_files folder h) (class_files_held folder h)

all_held : (folder : List ℕ) (h : Held) (paths : List String) → map string_bytes paths ≡ class_paths folder h → All (λ path. IsSome (bytes_at h (string_bytes path))) paths
all_held folder h paths same =
    let There : List ℕ → Type 0 = λ path. IsSome (bytes_at h path) in
    All-unmap string_bytes There paths
    (subst (All There) (sym same)
    (All-map There path_of (class_files folder h)
    (All-weaker (λ file. bytes_at h file.0 ≡ Some file.1) (λ file. There file.0) (λ file found. ap is_some found) (class_files folder h) (class_files_held folder h))))

pub few_class_files : (folder : List ℕ) (h : Held) (paths : List String) → map string_bytes paths ≡ class_paths folder h → length paths ≤ 4096 → length (class_files folder h) ≤ 4096
few_class_files folder h paths same few =
    let left : length (map string_bytes paths) ≡ length paths = length-map paths string_bytes in
    let right : length (class_paths folder h) ≡ length (class_files folder h) = length-map (class_files folder h) path_of in
    omega (arith, ap length same)

-- ---- the steps

abbrev pub AreTheirs : List ℕ → List String → Held → Type 0
AreTheirs folder paths h = map string_bytes paths ≡ class_paths folder h

module _ (folder : List ℕ) (list : List String) (paths : Vec String) (listing : Listing) (items : list ≡ paths.items) (is : listing ≡ listings.Paths paths) where
  pub paths_listed : (held : Option Held) → IfSome held (λ h. IsListed folder h listing) → IfSome held (AreTheirs folder list)
  paths_listed held reported =
      subst (λ l. IfSome held (AreTheirs folder l)) (sym items) (subst (λ l. IfSome held (λ h. IsListed folder h l)) is reported)

  pub few_listed : AreClassPaths folder listing → vec_len paths ≤ most_files
  few_listed listed = (subst (AreClassPaths folder) is listed).0

  pub class_paths_listed : AreClassPaths folder listing → All (λ path. IsTrue (is_class_path folder (string_bytes path))) list
  class_paths_listed listed =
      subst (All (λ path. IsTrue (is_class_path folder (string_bytes path)))) (sym items) (subst (AreClassPaths folder) is listed).1

  pub paths_rise : AreRising listing → TextsRise (map string_bytes list)
  paths_rise rise = subst (λ (l : List String). TextsRise (map string_bytes l)) (sym items) (subst AreRising is rise)

pub paths_held : (held mid : Option Held) (folder : List ℕ) (paths : List String) → mid ≡ held → IfSome held (AreTheirs folder paths)
    → IfSome mid (λ h. All (λ path. IsSome (bytes_at h (string_bytes path))) paths)
paths_held held mid folder paths same theirs =
    subst (λ o. IfSome o (λ h. All (λ path. IsSome (bytes_at h (string_bytes path))) paths)) (sym same)
    (reported_so held (AreTheirs folder paths) (λ h. All (λ path. IsSome (bytes_at h (string_bytes path))) paths) (λ h is. all_held folder h paths is) theirs)

-- ---- the files that were read

module _ (paths : List String) (sources : Vec SourceFile) (loaded : Loaded) (is : loaded ≡ loads.Files sources) (read : AreRead (map string_bytes paths) loaded) where
  abbrev source_path : SourceFile → List ℕ
  source_path file = string_bytes file.path

  are_read : AreRead (map string_bytes paths) (loads.Files sources)
  are_read = subst (AreRead (map string_bytes paths)) is read

  pub sources_class_paths : (folder : List ℕ) → All (λ path. IsTrue (is_class_path folder (string_bytes path))) paths → All (λ file. IsTrue (is_class_path folder (string_bytes file.path))) sources.items
  sources_class_paths folder all =
      let Is : List ℕ → Type 0 = λ path. IsTrue (is_class_path folder path) in
      All-unmap source_path Is sources.items (subst (All Is) (sym are_read.0) (All-map Is string_bytes paths all))

  pub sources_few : length paths ≤ most_files → length sources.items ≤ most_files
  sources_few few =
      let same : length (map source_path sources.items) ≡ length (map string_bytes paths) = ap length are_read.0 in
      omega (arith, few, same, length-map sources.items source_path, length-map paths string_bytes)

  pub sources_within : AreWithin (map source_view sources.items)
  sources_within = are_read.1

  pub sources_rise : TextsRise (map string_bytes paths) → PathsRise (map source_view sources.items)
  sources_rise rise = subst TextsRise (sym (map-map path_of source_view sources.items ∙ are_read.0)) rise

-- ---- what was asked

-- the folder, and then a prefix of what the input asks
pub asks_input : (job : FolderJob) (folder : List ℕ) (held : Option Held) (list : List String) (old mid new : List (List ℕ)) → folder ≡ folder_of job → IfSome held (AreTheirs folder list)
    → mid ≡ old ++ folder ∷ [] → GrowsByPrefix mid new (input_asks job)
    → IfSome held (λ h. GrowsByPrefix old new (folder_of job ∷ (input_asks job ++ class_paths (folder_of job) h)))
asks_input job folder held list old mid new same theirs is grows =
    reported_so held (AreTheirs folder list) (λ h. GrowsByPrefix old new (folder_of job ∷ (input_asks job ++ class_paths (folder_of job) h)))
    (λ h are.
    GrowsByPrefix-after old mid new (folder_of job ∷ []) (input_asks job ++ class_paths (folder_of job) h) (is ∙ ap (λ (f : List ℕ). old ++ f ∷ []) same)
    (GrowsByPrefix-within mid new (input_asks job) (input_asks job ++ class_paths (folder_of job) h) grows (IsPrefix-append (input_asks job) (class_paths (folder_of job) h))))
    theirs

-- the folder, what the input asks, and then a prefix of the paths
pub asks_files : (job : FolderJob) (folder : List ℕ) (held : Option Held) (list : List String) (old mid next new : List (List ℕ)) → folder ≡ folder_of job → IfSome held (AreTheirs folder list)
    → mid ≡ old ++ folder ∷ [] → next ≡ mid ++ input_asks job → GrowsByPrefix next new (map string_bytes list)
    → IfSome held (λ h. GrowsByPrefix old new (folder_of job ∷ (input_asks job ++ class_paths (folder_of job) h)))
asks_files job folder held list old mid next new same theirs is then_is grows =
    reported_so held (AreTheirs folder list) (λ h. GrowsByPrefix old new (folder_of job ∷ (input_asks job ++ class_paths (folder_of job) h)))
    (λ h are.
    let paths : GrowsByPrefix next new (class_paths (folder_of job) h) = subst (λ (f : List ℕ). GrowsByPrefix next new (class_paths f h)) same (subst (GrowsByPrefix next new) are grows) in
    GrowsByPrefix-after old mid new (folder_of job ∷ []) (input_asks job ++ class_paths (folder_of job) h) (is ∙ ap (λ (f : List ℕ). old ++ f ∷ []) same)
    (GrowsByPrefix-after mid next new (input_asks job) (class_paths (folder_of job) h) then_is paths))
    theirs

-- ---- stage by stage, where the store's contents are known

passed_stage : (limit : Limit) (files : List File) → IsLoaded files (loads.Passed limit) → ReadsFiles files (Some (reports.Limited limit))
passed_stage limits.FileCount files past = absurd past
passed_stage limits.File files past = inl (refl, past)
passed_stage limits.Total files past = inr (refl, past)
passed_stage limits.Input files past = absurd past

module _ (job : FolderJob) (held : Option Held) where
  abbrev pub Counted : Type 0
  Counted = IfSome held (λ h. CountsFiles (class_files (folder_of job) h) None)

  abbrev pub Found : Type 0
  Found = IfSome held (λ h. FindsInput job h None)

  abbrev pub Decides : List HostAnswer → Report → Type 0
  Decides answers report = IfSome held (λ h. IsDecided (folder_stages job h answers) report)

  pub too_many : (answers : List HostAnswer) (folder : List ℕ) (listing : Listing) → folder ≡ folder_of job → listing ≡ listings.TooMany → IfSome held (λ h. IsListed folder h listing)
      → Decides answers (reports.Limited limits.FileCount)
  too_many answers folder listing same is reported =
      reported_so held (λ h. IsListed folder h listing) (λ h. IsDecided (folder_stages job h answers) (reports.Limited limits.FileCount))
      (λ h listed. inl (refl, subst (λ f. IsListed f h listings.TooMany) same (subst (IsListed folder h) is listed))) reported

  abbrev pub Unreached : Type 0
  Unreached = IfSome held (λ h. Reaches job h → ⊥)

  pub too_many_unreached : (folder : List ℕ) (listing : Listing) → folder ≡ folder_of job → listing ≡ listings.TooMany → IfSome held (λ h. IsListed folder h listing) → Unreached
  too_many_unreached folder listing same is reported =
      reported_so held (λ h. IsListed folder h listing) (λ h. Reaches job h → ⊥)
      (λ h listed there.
      let many : most_files < length (class_files (folder_of job) h) = subst (λ f. IsListed f h listings.TooMany) same (subst (IsListed folder h) is listed) in
      let few : length (class_files (folder_of job) h) ≤ most_files = there.count in
      absurd (omega (arith, many, few))) reported

  pub counted : (folder : List ℕ) (list : List String) → folder ≡ folder_of job → length list ≤ 4096 → IfSome held (AreTheirs folder list) → Counted
  counted folder list same few theirs =
      reported_so held (AreTheirs folder list) (λ h. CountsFiles (class_files (folder_of job) h) None)
      (λ h are. subst (λ f. length (class_files f h) ≤ most_files) same (few_class_files folder h list are few)) theirs

  module _ (mid : Option Held) (same_held : mid ≡ held) (input : Input) (read : IfSome mid (λ h. IsJobInput job h input)) where
    input_reported : (other : Input) → input ≡ other → IfSome held (λ h. IsJobInput job h other)
    input_reported other is = subst (λ i. IfSome held (λ h. IsJobInput job h i)) is (subst (λ o. IfSome o (λ h. IsJobInput job h input)) same_held read)

    pub absent : (answers : List HostAnswer) (path : List ℕ) → Counted → input ≡ inputs.Absent path → Decides answers (reports.Absent path)
    absent answers path few is =
        both_reported held (λ h. CountsFiles (class_files (folder_of job) h) None) (λ h. IsJobInput job h (inputs.Absent path)) (λ h. IsDecided (folder_stages job h answers) (reports.Absent path))
        (λ h on here. inr (on, inl here)) few (input_reported (inputs.Absent path) is)

    pub too_long : (answers : List HostAnswer) → Counted → input ≡ inputs.TooLong → Decides answers (reports.Limited limits.Input)
    too_long answers few is =
        both_reported held (λ h. CountsFiles (class_files (folder_of job) h) None) (λ h. IsJobInput job h inputs.TooLong) (λ h. IsDecided (folder_stages job h answers) (reports.Limited limits.Input))
        (λ h on here. inr (on, inl here)) few (input_reported inputs.TooLong is)

    input_unreached : (h : Held) (report : Report) → FindsInput job h (Some report) → Reaches job h → ⊥
    input_unreached h report decided there =
        let same : Some report ≡ None = job_input_one job h (Some report) None decided there.input in
        absurd cc

    pub absent_unreached : (path : List ℕ) → input ≡ inputs.Absent path → Unreached
    absent_unreached path is =
        reported_so held (λ h. IsJobInput job h (inputs.Absent path)) (λ h. Reaches job h → ⊥) (λ h here. input_unreached h (reports.Absent path) here) (input_reported (inputs.Absent path) is)

    pub too_long_unreached : input ≡ inputs.TooLong → Unreached
    too_long_unreached is =
        reported_so held (λ h. IsJobInput job h inputs.TooLong) (λ h. Reaches job h → ⊥) (λ h here. input_unreached h (reports.Limited limits.Input) here) (input_reported inputs.TooLong is)

    pub found : (bytes : Vec ℕ) → input ≡ inputs.Bytes bytes → IfSome held (λ h. FindsInput job h None × (bytes.items ≡ input_of job h))
    found bytes is = input_reported (inputs.Bytes bytes) is

  module _ (mid : Option Held) (same_held : mid ≡ held) (folder : List ℕ) (same : folder ≡ folder_of job) (list : List String) (theirs : IfSome held (AreTheirs folder list)) (loaded : Loaded) (read : IfSome mid (λ h. IsLoaded (files_at h (map string_bytes list)) loaded)) where
    -- the files are read, under the paths that were listed
    files_reported : (other : Loaded) → loaded ≡ other → IfSome held (λ h. IsLoaded (class_files (folder_of job) h) other)
    files_reported other is =
        both_reported held (AreTheirs folder list) (λ h. IsLoaded (files_at h (map string_bytes list)) loaded) (λ h. IsLoaded (class_files (folder_of job) h) other)
        (λ h are here.
        subst (λ f. IsLoaded (class_files f h) other) same
        (subst (λ files. IsLoaded files other) (files_same folder h (map string_bytes list) are) (subst (IsLoaded (files_at h (map string_bytes list))) is here)))
        theirs (subst (λ o. IfSome o (λ h. IsLoaded (files_at h (map string_bytes list)) loaded)) same_held read)

    pub passed : (answers : List HostAnswer) (limit : Limit) → Counted → Found → loaded ≡ loads.Passed limit → Decides answers (reports.Limited limit)
    passed answers limit few there is =
        both_reported held (λ h. CountsFiles (class_files (folder_of job) h) None × FindsInput job h None) (λ h. IsLoaded (class_files (folder_of job) h) (loads.Passed limit))
        (λ h. IsDecided (folder_stages job h answers) (reports.Limited limit))
        (λ h on past. inr (on.0, inr (on.1, inl (passed_stage limit (class_files (folder_of job) h) past))))
        (both_reported held (λ h. CountsFiles (class_files (folder_of job) h) None) (λ h. FindsInput job h None)
        (λ h. CountsFiles (class_files (folder_of job) h) None × FindsInput job h None) (λ h a b. (a, b)) few there)
        (files_reported (loads.Passed limit) is)

    pub passed_unreached : (limit : Limit) → loaded ≡ loads.Passed limit → Unreached
    passed_unreached limit is =
        reported_so held (λ h. IsLoaded (class_files (folder_of job) h) (loads.Passed limit)) (λ h. Reaches job h → ⊥)
        (λ h past there.
        let files : List File = class_files (folder_of job) h in
        let same : Some (reports.Limited limit) ≡ None = files_one files (Some (reports.Limited limit)) None (passed_stage limit files past) there.files in
        absurd cc) (files_reported (loads.Passed limit) is)

    pub judged : (answers : List HostAnswer) (sources : Vec SourceFile) (set : List File) (bytes : Vec ℕ) (report : Report) → Counted → IfSome held (λ h. FindsInput job h None × (bytes.items ≡ input_of job h))
        → loaded ≡ loads.Files sources → AreRead (map string_bytes list) loaded → set ≡ map (within_folder folder) (map source_view sources.items)
        → IsDecided (judging job set bytes.items answers) report → Decides answers report
    judged answers sources set bytes report few there is all cut decided =
        both_reported held (λ h. CountsFiles (class_files (folder_of job) h) None × (FindsInput job h None × (bytes.items ≡ input_of job h)))
        (λ h. IsLoaded (class_files (folder_of job) h) (loads.Files sources)) (λ h. IsDecided (folder_stages job h answers) report)
        (λ h on view. inr (
          on.0,
          inr (
            on.1.0,
            inr (
              subst AreWithin view (subst (AreRead (map string_bytes list)) is all).1,
              subst (λ input. IsDecided (judging job (files_within (folder_of job) h) input answers) report) on.1.1
                  (subst (λ files. IsDecided (judging job files bytes.items answers) report)
                  (cut ∙ ap (λ f. map (within_folder f) (map source_view sources.items)) same ∙ ap (map (within_folder (folder_of job))) view) decided),
            ),
          ),
        ))
        (both_reported held (λ h. CountsFiles (class_files (folder_of job) h) None) (λ h. FindsInput job h None × (bytes.items ≡ input_of job h))
        (λ h. CountsFiles (class_files (folder_of job) h) None × (FindsInput job h None × (bytes.items ≡ input_of job h))) (λ h a b. (a, b)) few there)
        (files_reported (loads.Files sources) is)

    -- what is judged are the held files and input
    pub read_whole : (sources : Vec SourceFile) (set : List File) (bytes : Vec ℕ) → Counted → IfSome held (λ h. FindsInput job h None × (bytes.items ≡ input_of job h))
        → loaded ≡ loads.Files sources → AreRead (map string_bytes list) loaded → set ≡ map (within_folder folder) (map source_view sources.items)
        → IfSome held (IsReached job set bytes.items)
    read_whole sources set bytes few there is all cut =
        both_reported held (λ h. CountsFiles (class_files (folder_of job) h) None × (FindsInput job h None × (bytes.items ≡ input_of job h)))
        (λ h. IsLoaded (class_files (folder_of job) h) (loads.Files sources)) (IsReached job set bytes.items)
        (λ h on view. (
          record { count = on.0; input = on.1.0; files = subst AreWithin view (subst (AreRead (map string_bytes list)) is all).1 },
          cut ∙ ap (λ f. map (within_folder f) (map source_view sources.items)) same ∙ ap (map (within_folder (folder_of job))) view,
          on.1.1,
        ))
        (both_reported held (λ h. CountsFiles (class_files (folder_of job) h) None) (λ h. FindsInput job h None × (bytes.items ≡ input_of job h))
        (λ h. CountsFiles (class_files (folder_of job) h) None × (FindsInput job h None × (bytes.items ≡ input_of job h))) (λ h a b. (a, b)) few there)
        (files_reported (loads.Files sources) is)
