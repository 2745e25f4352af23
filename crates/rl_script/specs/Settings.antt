-- What the settings of a script are.
use Rattle.std.specs.Prelude.{ℕ, List, [], ◌∷◌, ◌++◌, length, ◌==◌, Option, Some, None, unwrap_or, Result, Ok, Err, if◌then◌else◌, codes}
use Rattle.rl_text.specs.Meanings.{meaning}
use Rattle.rl_base.specs.Results.{◌>>=◌}
use Rattle.rl_base.specs.declared.limit.TheConstants.{NODES, WORKERS}
use Rattle.rl_events.specs.declared.kind.Kind.{Kind}
use Rattle.rl_events.specs.declared.kind.Kind.TheVariants.{Duplicate}
use Rattle.rl_events.specs.Forms.{Reading}
use Rattle.rl_events.specs.Words.{number, within}
use Rattle.rl_script.specs.declared.script.TheConstants.{MOST_STOPS}
use Rattle.rl_script.specs.declared.settings.Settings.{Settings}
use Rattle.rl_script.specs.declared.settings.SettingWord.{SettingWord}
use Rattle.rl_script.specs.declared.settings.SettingWord.TheVariants as word

-- which setting a first word begins
abbrev pub setting_word : List ℕ → Option SettingWord
setting_word = meaning {A = SettingWord}
    ((codes "nodes", word.Nodes) ∷ (codes "workers", word.Workers) ∷ (codes "batch", word.Batch) ∷ (codes "loss", word.Loss) ∷ (codes "seed", word.Seed) ∷ (codes "stop", word.Stop) ∷ [])

-- no setting is given yet
abbrev pub no_settings : Settings
no_settings = record { nodes = None; workers = None; batch = None; loss = None; seed = None; stops = [] }

-- how many nodes there are
abbrev pub nodes_of : Settings → ℕ
nodes_of s = unwrap_or s.nodes 1

-- how many workers there are
abbrev pub workers_of : Settings → ℕ
workers_of s = unwrap_or s.workers 1

-- a setting is given once
abbrev pub once : {A : Type 0} → Option A → A → Result (Option A) Kind
once None x = Ok (Some x)
once (Some y) x = Err Duplicate

-- the value of a setting, which was not given before
abbrev pub given : Reading ℕ → Option ℕ → List ℕ → Result (Option ℕ) Kind
given read before word = read word >>= λ n. once before n

-- one more stop
abbrev pub one_more : List ℕ → ℕ → Result (List ℕ) Kind
one_more stops d = if length stops == MOST_STOPS then Err Duplicate else Ok (stops ++ d ∷ [])

-- the settings with one more of them
unfoldable pub with_setting : Settings → SettingWord → List ℕ → Result Settings Kind
with_setting s word.Nodes w = given (within 1 NODES) s.nodes w >>= λ nodes. Ok (record s { nodes = nodes })
with_setting s word.Workers w = given (within 1 WORKERS) s.workers w >>= λ workers. Ok (record s { workers = workers })
with_setting s word.Batch w = given (within 1 64) s.batch w >>= λ batch. Ok (record s { batch = batch })
with_setting s word.Loss w = given (within 0 999) s.loss w >>= λ loss. Ok (record s { loss = loss })
with_setting s word.Seed w = given number s.seed w >>= λ seed. Ok (record s { seed = seed })
with_setting s word.Stop w = (within 1 1000000 w >>= one_more s.stops) >>= λ stops. Ok (record s { stops = stops })
