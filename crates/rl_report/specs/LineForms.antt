-- What the lines of a report stand for.
use Rattle.std.specs.Prelude.{ℕ, Bool, true, false, List, [], ◌∷◌, drop, ok_or, Result, Err, if◌then◌else◌, codes}
use Rattle.std.specs.Str.{bytes_eq}
use Rattle.rl_text.specs.Meanings.{meaning}
use Rattle.rl_text.specs.Printed.{Line}
use Rattle.rl_txn.specs.declared.write.End.{End}
use Rattle.rl_txn.specs.declared.write.End.TheVariants.{Done, Declined}
use Rattle.rl_report.specs.declared.fault.ReportFault.{ReportFault}
use Rattle.rl_report.specs.declared.fault.ReportFault.TheVariants as fault
use Rattle.rl_report.specs.declared.line.ItemLine.{ItemLine}
use Rattle.rl_report.specs.declared.line.RowLine.{RowLine}
use Rattle.rl_report.specs.declared.line.StreamLine.{StreamLine}
use Rattle.rl_report.specs.declared.block.RoleLine.{RoleLine}
use Rattle.rl_report.specs.declared.block.RoleLine.TheVariants.{Follower, Candidate, Opening, Leading}
use Rattle.rl_report.specs.declared.block.Head.{Head}
use Rattle.rl_report.specs.declared.block.Head.TheVariants.{Up, Down, Lost}
use Rattle.rl_report.specs.declared.middle.Middle.{Middle}
use Rattle.rl_report.specs.declared.middle.Middle.TheVariants.{Locked, Changed, DeniedPromised, DeniedBallot, DeniedOrder, NoMessage, Opened}
use Rattle.rl_report.specs.declared.report.Title.{Title}
use Rattle.rl_report.specs.declared.report.Title.TheVariants.{Serial, Steps, Sim, Live}
use Rattle.rl_report.specs.Readers.{always, both, made, choice}
use Rattle.rl_report.specs.Words.{OfWords, begins, behind, short, long, exactly, name, longs, columns}

-- the title: `rolis` and a command
abbrev pub title_of : Line → Result Title ReportFault
title_of (rolis ∷ command ∷ []) =
    if bytes_eq rolis (codes "rolis")
    then ok_or (meaning ((codes "serial", Serial) ∷ (codes "steps", Steps) ∷ (codes "sim", Sim) ∷ (codes "live", Live) ∷ []) command) fault.Title
    else Err fault.Title
title_of line = Err fault.Title

-- how a transaction ended
abbrev pub end : OfWords End
end = choice (begins (codes "done")) (behind (codes "done") (always Done)) (made Declined (behind (codes "declined") short))

-- an item
unfoldable pub item : OfWords ItemLine
item = made (λ x. record {
  stamp = record { epoch = x.0; seq = x.1.0 };
  worker = x.1.1.0;
  index = x.1.1.1.0;
  reply = record { outs = x.1.1.1.1.1; end = x.1.1.1.1.0 };
}) (behind (codes "item") (both short (both long (both short (both short (both end longs))))))

-- a row
unfoldable pub row : OfWords RowLine
row = made (λ x. record { table = x.0; key = x.1.0; row = x.1.1 }) (behind (codes "row") (both name (both short columns)))

-- the stream of a number
unfoldable pub stream : (number : ℕ) → OfWords StreamLine
stream number = made (λ x. record { stream = x.0; ballot = x.1.0; len = x.1.1.0; known = x.1.1.1 }) (behind (codes "stream")
    (both (exactly number) (both (behind (codes "ballot") short) (both (behind (codes "len") short) (behind (codes "known") short)))))

-- whether a leader is still opening
abbrev pub is_opening : OfWords Bool
is_opening = choice (begins (codes "opening")) (behind (codes "opening") (always true)) (behind (codes "open") (always false))

-- the role of a node
unfoldable pub role : OfWords RoleLine
role = choice (begins (codes "follower")) (behind (codes "follower") (always Follower))
    (choice (begins (codes "candidate")) (made (λ x. Candidate x.0 x.1.0 x.1.1) (behind (codes "candidate") (both short (both short short))))
    (made (λ x. if x.1 then Opening x.0 else Leading x.0) (behind (codes "leader") (both short is_opening))))

-- whether a replica has come to the watermark
abbrev pub arrived : OfWords Bool
arrived = choice (begins (codes "at")) (behind (codes "at") (always true)) (behind (codes "behind") (always false))

-- the state of a node that is up
unfoldable pub up : OfWords Head
up = made (λ x. Up x.0 x.1.0 (x.1.1.0, x.1.1.1.0) x.1.1.1.1) (behind (codes "up")
    (both (behind (codes "promised") short) (both role (both (behind (codes "watermark") short) (both long arrived)))))

-- the state of a node in a simulated run
unfoldable pub simulated : OfWords Head
simulated = choice (begins (codes "up")) up
    (choice (begins (codes "down")) (made Down (behind (codes "down") (behind (codes "promised") short)))
    (behind (codes "lost") (always Lost)))

-- the line of a node, with the reader of its number and that of its state
abbrev pub node : OfWords ℕ → OfWords Head → OfWords (ℕ × Head)
node number head = behind (codes "node") (both number head)

-- an attempt that was refused at a locked record
unfoldable pub locked : OfWords Middle
locked = made (λ x. Locked x.0 x.1.0 x.1.1.0 x.1.1.1.0 x.1.1.1.1.0 x.1.1.1.1.1) (behind (codes "refused")
    (both short (both short (both short (behind (codes "locked") (both name (both short long)))))))

-- an attempt that was refused at a record that had changed
unfoldable pub changed : OfWords Middle
changed = made (λ x. Changed x.0 x.1.0 x.1.1.0 x.1.1.1.0 x.1.1.1.1.0 x.1.1.1.1.1.0 x.1.1.1.1.1.1) (behind (codes "refused")
    (both short (both short (both short (behind (codes "changed") (both name (both short (both long long))))))))

-- an attempt that was refused, by its fifth word
abbrev pub refused : OfWords Middle
refused = choice (λ words. begins (codes "locked") (drop 4 words)) locked changed

-- the message and the node of one that was refused for a reason, and the number behind that
unfoldable pub denied_words : (why : List ℕ) → OfWords (ℕ × (ℕ × ℕ))
denied_words why = behind (codes "denied") (both long (both short (behind why short)))

-- a message that was refused for a reason
abbrev pub denied_for : (why : List ℕ) → (ℕ → ℕ → ℕ → Middle) → OfWords Middle
denied_for why make = made (λ x. make x.0 x.1.0 x.1.1) (denied_words why)

-- a message that was refused, by its fourth word
abbrev pub denied : OfWords Middle
denied = choice (λ words. begins (codes "promised") (drop 3 words)) (denied_for (codes "promised") DeniedPromised)
    (choice (λ words. begins (codes "ballot") (drop 3 words)) (denied_for (codes "ballot") DeniedBallot) (denied_for (codes "order") DeniedOrder))

-- a message that was not sent
unfoldable pub not_sent : OfWords Middle
not_sent = made NoMessage (behind (codes "nomessage") long)

-- a leader that opened
unfoldable pub opened : OfWords Middle
opened = made (λ x. Opened x.0 x.1.0 x.1.1) (behind (codes "opened") (both short (both short short)))

-- what became of an event, but for a shown node
abbrev pub effect : OfWords Middle
effect = choice (begins (codes "refused")) refused
    (choice (begins (codes "denied")) denied (choice (begins (codes "nomessage")) not_sent opened))
