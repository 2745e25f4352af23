-- A right text has no other verdict.
use Rattle.std.specs.Prelude.{◌≡◌, ℕ, List, length}
use Rattle.rl_txn.specs.declared.item.Item.{Item}
use Rattle.rl_script.specs.Fits.{ScriptFits}
use Rattle.rl_script.specs.declared.script.Script.{Script}
use Rattle.rl_check.specs.declared.verdict.Verdict.{Verdict}
use Rattle.rl_check.specs.declared.verdict.Verdict.TheVariants.{Yes}
use Rattle.rl_check.specs.Right.{IsRight}
use Rattle.rl_check.specs.Verdicts.{IsVerdict}

-- the verdict on the right report of some items is that it is right, with their number: what is said to be wrong with a text is so
abbrev pub RightIsYes : Type 0
RightIsYes = (script : Script) (text : List ℕ) (items : List Item) (verdict : Verdict)
    → ScriptFits script → IsRight script text items → IsVerdict script text verdict → verdict ≡ Yes (length items)
