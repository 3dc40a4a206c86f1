-- The arguments that ask for a run, and its options. This project's rule.
use Rattle.std.specs.Prelude.{◌≡◌, ◌≤◌, ◌<◌, ◌⊎◌, ℕ, List, [], ◌∷◌, IfSome, None, Some, codes, decimal, unwrap_or}
use Rattle.arguments.specs.declared.options.Given.{Given}
use Rattle.arguments.specs.declared.options.Options.{Options}
use Rattle.arguments.specs.declared.options.TheConstants.{DEFAULT_LOOKS, MAX_LOOKS, MAX_WATCHERS, MAX_WORKERS}

-- the options are in their ranges
pub record IsAllowed (options : Options) : Type 0 where
  pub few_workers : options.workers ≤ MAX_WORKERS
  pub few_watchers : options.watchers ≤ MAX_WATCHERS
  pub some_looks : 0 < options.looks
  pub few_looks : options.looks ≤ MAX_LOOKS

-- the options that are given are in their ranges
pub record AreAllowed (given : Given) : Type 0 where
  pub few_workers : IfSome given.workers (λ count. count ≤ MAX_WORKERS)
  pub few_watchers : IfSome given.watchers (λ count. count ≤ MAX_WATCHERS)
  pub some_looks : IfSome given.looks (λ count. 0 < count)
  pub few_looks : IfSome given.looks (λ count. count ≤ MAX_LOOKS)

-- no option was given
abbrev pub nothing_given : Given
nothing_given = record { workers = None; watchers = None; looks = None }

-- a number of workers is given, where none was given before
pub record GivesWorkers (before : Given) (value : List ℕ) (given : Given) : Type 0 where
  pub count : ℕ
  pub value_is : value ≡ decimal count
  pub most : count ≤ MAX_WORKERS
  pub once : before.workers ≡ None
  pub given_is : given ≡ record before { workers = Some count }

-- a number of watchers is given, where none was given before
pub record GivesWatchers (before : Given) (value : List ℕ) (given : Given) : Type 0 where
  pub count : ℕ
  pub value_is : value ≡ decimal count
  pub most : count ≤ MAX_WATCHERS
  pub once : before.watchers ≡ None
  pub given_is : given ≡ record before { watchers = Some count }

-- a number of looks is given, where none was given before
pub record GivesLooks (before : Given) (value : List ℕ) (given : Given) : Type 0 where
  pub count : ℕ
  pub value_is : value ≡ decimal count
  pub least : 0 < count
  pub most : count ≤ MAX_LOOKS
  pub once : before.looks ≡ None
  pub given_is : given ≡ record before { looks = Some count }

-- a name and a value give one option more
abbrev pub IsNextOption : Given → List ℕ → List ℕ → Given → Type 0
IsNextOption before name value given =
    (name ≡ codes "--workers") × GivesWorkers before value given
    ⊎ (name ≡ codes "--watch") × GivesWatchers before value given
    ⊎ (name ≡ codes "--looks") × GivesLooks before value given

-- arguments give one option after another, after those before
abbrev pub Gives : Given → List (List ℕ) → Given → Type 0
Gives before [] given = before ≡ given
Gives before (name ∷ []) given = ⊥
Gives before (name ∷ value ∷ behind) given =
    (next : Given) × IsNextOption before name value next × Gives next behind given

-- the options, with the default of each that isn't given
abbrev pub with_defaults : Given → Options
with_defaults given = record {
  workers = unwrap_or given.workers 0;
  watchers = unwrap_or given.watchers 0;
  looks = unwrap_or given.looks DEFAULT_LOOKS;
}

-- the arguments are `run` and then these options, each at most once, in any order
pub record IsRun (arguments : List (List ℕ)) (options : Options) : Type 0 where
  pub given : Given
  pub behind : List (List ℕ)
  pub form : arguments ≡ codes "run" ∷ behind
  pub gives : Gives nothing_given behind given
  pub options_are : options ≡ with_defaults given
