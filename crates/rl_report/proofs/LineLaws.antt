-- Lines: what is read was printed so, and printed lines are read again.
use Rattle.std.proofs.Common.{◌≡◌, ◌⊎◌, inl, inr, ℕ, ◌-◌, ◌^◌, Bool, true, false, cond, List, [], ◌∷◌, ◌++◌, All, codes, drop, refl, sym, ap, subst, ◌∙◌}
use Rattle.std.specs.Fmt.{decimal}
use Rattle.std.specs.Str.{bytes_eq}
use Rattle.rl_text.specs.Printed.{Line}
use Rattle.rl_txn.specs.declared.write.End.{End}
use Rattle.rl_txn.specs.declared.write.End.TheVariants.{Done, Declined}
use Rattle.rl_report.specs.declared.fault.ReportFault.{ReportFault}
use Rattle.rl_report.specs.declared.line.ItemLine.{ItemLine}
use Rattle.rl_report.specs.declared.line.RowLine.{RowLine}
use Rattle.rl_report.specs.declared.line.StreamLine.{StreamLine}
use Rattle.rl_report.specs.declared.block.RoleLine.{RoleLine}
use Rattle.rl_report.specs.declared.block.RoleLine.TheVariants.{Follower, Candidate, Opening, Leading}
use Rattle.rl_report.specs.declared.block.Head.{Head}
use Rattle.rl_report.specs.declared.block.Head.TheVariants.{Up, Down, Lost, Plain}
use Rattle.rl_report.specs.declared.middle.Middle.{Middle}
use Rattle.rl_report.specs.declared.middle.Middle.TheVariants.{Locked, Changed, DeniedPromised, DeniedBallot, DeniedOrder, NoMessage, Opened, Shown}
use Rattle.rl_report.specs.Printed.{end_words, item_words, row_words, stream_words, role_words, at_word, head_words}
use Rattle.rl_report.specs.Readers.{always, both, made, choice}
use Rattle.rl_report.specs.Words.{OfWords, begins, behind, short}
use Rattle.rl_report.specs.LineForms.{end, item, row, stream, is_opening, role, up, simulated, node, locked, changed, refused, denied_words, denied_for, denied, not_sent, opened, effect}
use Rattle.rl_report.proofs.ReaderLaws.{Any, IsReader, always_reader, chain, made_reader, reprinted, choice_reader}
use Rattle.rl_report.proofs.WordLaws.{UpTo, Is, IsName, IsLast, AreColumns, one_word, behind_reader, short_reader, long_reader, exactly_reader, name_reader, longs_reader, columns_reader, own_word}

abbrev pub Short : ℕ → Type 0
Short n = UpTo (2 ^ 32 - 1) n

abbrev pub Long : ℕ → Type 0
Long n = UpTo (2 ^ 64 - 1) n

-- ---- items ----

abbrev pub SmallEnd : End → Type 0
SmallEnd Done = Unit {0}
SmallEnd (Declined op) = Short op

abbrev IsDone : End → Type 0
IsDone e = e ≡ Done

abbrev IsDeclined : End → Type 0
IsDeclined Done = ⊥
IsDeclined (Declined op) = Short op

end_reader : IsReader end end_words SmallEnd Any
end_reader = choice_reader (begins (codes "done")) SmallEnd
    (reprinted end_words IsDone (behind_reader (codes "done") (always_reader Done Any)) (λ e is. (ap end_words is, is)) (λ e is. is))
    (made_reader Declined end_words IsDeclined (behind_reader (codes "declined") short_reader) (λ n small. (refl, small)) from)
    first second (λ e is. subst SmallEnd (sym is) tt) two either
  where
    from : (e : End) → IsDeclined e → (n : ℕ) × (Short n) × (Declined n ≡ e)
    from Done h = absurd h
    from (Declined op) h = (op, h, refl)

    first : (e : End) (rest : Line) → IsDone e → Any rest → begins (codes "done") (end_words e ++ rest) ≡ true
    first e rest is stop = ap (λ e. begins (codes "done") (end_words e ++ rest)) is

    second : (e : End) (rest : Line) → IsDeclined e → Any rest → begins (codes "done") (end_words e ++ rest) ≡ false
    second Done rest h stop = absurd h
    second (Declined op) rest h stop = refl

    two : (e : End) → IsDeclined e → SmallEnd e
    two Done h = absurd h
    two (Declined op) h = h

    either : (e : End) → SmallEnd e → IsDone e ⊎ IsDeclined e
    either Done h = inl refl
    either (Declined op) h = inr h

pub record SmallItem (x : ItemLine) : Type 0 where
  pub epoch : Short x.stamp.epoch
  pub seq : Long x.stamp.seq
  pub worker : Short x.worker
  pub index : Short x.index
  pub end : SmallEnd x.reply.end
  pub outs : All (UpTo (2 ^ 64 - 1)) x.reply.outs

pub item_reader : IsReader item item_words SmallItem IsLast
unfolding item
item_reader = made_reader _ item_words SmallItem
    (behind_reader (codes "item") (chain short_reader (chain long_reader (chain short_reader (chain short_reader (chain end_reader longs_reader))))))
    (λ a h. (refl, record { epoch = h.0; seq = h.1.0; worker = h.1.1.0; index = h.1.1.1.0; end = h.1.1.1.1.0; outs = h.1.1.1.1.1 }))
    (λ x h. ((x.stamp.epoch, (x.stamp.seq, (x.worker, (x.index, (x.reply.end, x.reply.outs))))), (h.epoch, (h.seq, (h.worker, (h.index, (h.end, h.outs))))), refl))

-- ---- rows and streams ----

pub record SmallRow (x : RowLine) : Type 0 where
  pub table : IsName x.table
  pub key : Short x.key
  pub row : AreColumns x.row

pub row_reader : IsReader row row_words SmallRow IsLast
unfolding row
row_reader = made_reader _ row_words SmallRow (behind_reader (codes "row") (chain name_reader (chain short_reader columns_reader)))
    (λ a h. (refl, record { table = h.0; key = h.1.0; row = h.1.1 }))
    (λ x h. ((x.table, (x.key, x.row)), (h.table, (h.key, h.row)), refl))

pub record SmallStream (number : ℕ) (x : StreamLine) : Type 0 where
  pub stream : Is number x.stream
  pub ballot : Short x.ballot
  pub len : Short x.len
  pub known : Short x.known

pub stream_reader : (number : ℕ) → IsReader (stream number) stream_words (SmallStream number) Any
unfolding stream
stream_reader number = made_reader _ stream_words (SmallStream number)
    (behind_reader (codes "stream") (chain (exactly_reader number) (chain (behind_reader (codes "ballot") short_reader) (chain (behind_reader (codes "len") short_reader) (behind_reader (codes "known") short_reader)))))
    (λ a h. (refl, record { stream = h.0; ballot = h.1.0; len = h.1.1.0; known = h.1.1.1 }))
    (λ x h. ((x.stream, (x.ballot, (x.len, x.known))), (h.stream, (h.ballot, (h.len, h.known))), refl))

-- ---- nodes ----

-- one word for each of two values
abbrev pub flag_words : (on off : List ℕ) → Bool → Line
flag_words on off true = on ∷ []
flag_words on off false = off ∷ []

abbrev Whatever : Bool → Type 0
Whatever b = Unit {0}

flag_reader : (on off : List ℕ) → bytes_eq off on ≡ false → IsReader (choice (begins on) (behind on (always true)) (behind off (always false))) (flag_words on off) Whatever Any
flag_reader on off other = choice_reader (begins on) Whatever
    (reprinted (flag_words on off) (λ b. b ≡ true) (behind_reader on (always_reader true Any)) (λ b is. (ap (flag_words on off) is, is)) (λ b is. is))
    (reprinted (flag_words on off) (λ b. b ≡ false) (behind_reader off (always_reader false Any)) (λ b is. (ap (flag_words on off) is, is)) (λ b is. is))
    (λ b rest is stop. ap (λ b. begins on (flag_words on off b ++ rest)) is ∙ own_word on)
    (λ b rest is stop. ap (λ b. begins on (flag_words on off b ++ rest)) is ∙ other)
    (λ b is. tt) (λ b is. tt) either
  where
    either : (b : Bool) → Whatever b → (b ≡ true) ⊎ (b ≡ false)
    either true h = inl refl
    either false h = inr refl

abbrev pub SmallRole : RoleLine → Type 0
SmallRole Follower = Unit {0}
SmallRole (Candidate epoch have need) = Short epoch × (Short have × Short need)
SmallRole (Opening epoch) = Short epoch
SmallRole (Leading epoch) = Short epoch

abbrev IsFollower : RoleLine → Type 0
IsFollower r = r ≡ Follower

abbrev IsCandidate : RoleLine → Type 0
IsCandidate (Candidate epoch have need) = Short epoch × (Short have × Short need)
IsCandidate r = ⊥

abbrev IsLeader : RoleLine → Type 0
IsLeader (Opening epoch) = Short epoch
IsLeader (Leading epoch) = Short epoch
IsLeader r = ⊥

abbrev IsNoFollower : RoleLine → Type 0
IsNoFollower Follower = ⊥
IsNoFollower (Candidate epoch have need) = Short epoch × (Short have × Short need)
IsNoFollower (Opening epoch) = Short epoch
IsNoFollower (Leading epoch) = Short epoch

abbrev a_leader : ℕ × Bool → RoleLine
a_leader x = cond x.1 (Opening x.0) (Leading x.0)

candidate_reader : IsReader (made (λ x. Candidate x.0 x.1.0 x.1.1) (behind (codes "candidate") (both short (both short short)))) role_words IsCandidate Any
candidate_reader = made_reader _ role_words IsCandidate (behind_reader (codes "candidate") (chain short_reader (chain short_reader short_reader))) (λ a h. (refl, h)) from
  where
    from : (r : RoleLine) → IsCandidate r → (a : ℕ × (ℕ × ℕ)) × (Short a.0 × (Short a.1.0 × Short a.1.1)) × (Candidate a.0 a.1.0 a.1.1 ≡ r)
    from (Candidate e have need) h = ((e, (have, need)), h, refl)
    from x h = absurd h

leader_reader : IsReader (made a_leader (behind (codes "leader") (both short is_opening))) role_words IsLeader Any
leader_reader = made_reader a_leader role_words IsLeader (behind_reader (codes "leader") (chain short_reader (flag_reader (codes "opening") (codes "open") refl))) makes from
  where
    makes : (a : ℕ × Bool) → Short a.0 × Whatever a.1 → (role_words (a_leader a) ≡ codes "leader" ∷ (one_word a.0 ++ flag_words (codes "opening") (codes "open") a.1)) × IsLeader (a_leader a)
    makes a h = go a.1
      where
        go : (b : Bool) → (role_words (a_leader (a.0, b)) ≡ codes "leader" ∷ (one_word a.0 ++ flag_words (codes "opening") (codes "open") b)) × IsLeader (a_leader (a.0, b))
        go true = (refl, h.0)
        go false = (refl, h.0)

    from : (r : RoleLine) → IsLeader r → (a : ℕ × Bool) × (Short a.0 × Whatever a.1) × (a_leader a ≡ r)
    from (Opening e) h = ((e, true), (h, tt), refl)
    from (Leading e) h = ((e, false), (h, tt), refl)
    from x h = absurd h

role_reader : IsReader role role_words SmallRole Any
unfolding role
role_reader = choice_reader (begins (codes "follower")) SmallRole
    (reprinted role_words IsFollower (behind_reader (codes "follower") (always_reader Follower Any)) (λ r is. (ap role_words is, is)) (λ r is. is))
    (choice_reader (begins (codes "candidate")) IsNoFollower candidate_reader leader_reader first second one two either)
    (λ r rest is stop. ap (λ r. begins (codes "follower") (role_words r ++ rest)) is) not_follower
    (λ r is. subst SmallRole (sym is) tt) small which
  where
    first : (r : RoleLine) (rest : Line) → IsCandidate r → Any rest → begins (codes "candidate") (role_words r ++ rest) ≡ true
    first (Candidate e have need) rest h stop = refl
    first x rest h stop = absurd h

    second : (r : RoleLine) (rest : Line) → IsLeader r → Any rest → begins (codes "candidate") (role_words r ++ rest) ≡ false
    second (Opening e) rest h stop = refl
    second (Leading e) rest h stop = refl
    second x rest h stop = absurd h

    one : (r : RoleLine) → IsCandidate r → IsNoFollower r
    one Follower h = h
    one (Candidate e have need) h = h
    one x h = absurd h

    two : (r : RoleLine) → IsLeader r → IsNoFollower r
    two Follower h = h
    two (Candidate e have need) h = absurd h
    two (Opening e) h = h
    two (Leading e) h = h

    either : (r : RoleLine) → IsNoFollower r → IsCandidate r ⊎ IsLeader r
    either Follower h = absurd h
    either (Candidate e have need) h = inl h
    either (Opening e) h = inr h
    either (Leading e) h = inr h

    not_follower : (r : RoleLine) (rest : Line) → IsNoFollower r → Any rest → begins (codes "follower") (role_words r ++ rest) ≡ false
    not_follower Follower rest h stop = absurd h
    not_follower (Candidate e have need) rest h stop = refl
    not_follower (Opening e) rest h stop = refl
    not_follower (Leading e) rest h stop = refl

    small : (r : RoleLine) → IsNoFollower r → SmallRole r
    small Follower h = absurd h
    small (Candidate e have need) h = h
    small (Opening e) h = h
    small (Leading e) h = h

    which : (r : RoleLine) → SmallRole r → IsFollower r ⊎ IsNoFollower r
    which Follower h = inl refl
    which (Candidate e have need) h = inr h
    which (Opening e) h = inr h
    which (Leading e) h = inr h

abbrev pub IsUp : Head → Type 0
IsUp (Up promised role watermark at) = Short promised × (SmallRole role × (Short watermark.0 × (Long watermark.1 × Whatever at)))
IsUp h = ⊥

at_same : (b : Bool) → at_word b ∷ [] ≡ flag_words (codes "at") (codes "behind") b
at_same true = refl
at_same false = refl

up_reader : IsReader up head_words IsUp Any
unfolding up
up_reader = made_reader _ head_words IsUp
    (behind_reader (codes "up") (chain (behind_reader (codes "promised") short_reader) (chain role_reader (chain (behind_reader (codes "watermark") short_reader) (chain long_reader (flag_reader (codes "at") (codes "behind") refl))))))
    (λ a h. (ap (λ ws. codes "up" ∷ codes "promised" ∷ decimal a.0 ∷ role_words a.1.0 ++ codes "watermark" ∷ decimal a.1.1.0 ∷ decimal a.1.1.1.0 ∷ ws) (at_same a.1.1.1.1), h)) from
  where
    from : (x : Head) → IsUp x → (a : ℕ × (RoleLine × (ℕ × (ℕ × Bool)))) × (Short a.0 × (SmallRole a.1.0 × (Short a.1.1.0 × (Long a.1.1.1.0 × Whatever a.1.1.1.1)))) × (Up a.0 a.1.0 (a.1.1.0, a.1.1.1.0) a.1.1.1.1 ≡ x)
    from (Up promised role watermark at) h = ((promised, (role, (watermark.0, (watermark.1, at)))), h, refl)
    from x h = absurd h

abbrev IsDown : Head → Type 0
IsDown (Down promised) = Short promised
IsDown h = ⊥

abbrev IsLost : Head → Type 0
IsLost h = h ≡ Lost

abbrev IsNotUp : Head → Type 0
IsNotUp (Down promised) = Short promised
IsNotUp Lost = Unit {0}
IsNotUp h = ⊥

-- a state of a simulated run
abbrev pub SmallHead : Head → Type 0
SmallHead (Up promised role watermark at) = Short promised × (SmallRole role × (Short watermark.0 × (Long watermark.1 × Whatever at)))
SmallHead (Down promised) = Short promised
SmallHead Lost = Unit {0}
SmallHead Plain = ⊥

down_reader : IsReader (made Down (behind (codes "down") (behind (codes "promised") short))) head_words IsDown Any
down_reader = made_reader Down head_words IsDown (behind_reader (codes "down") (behind_reader (codes "promised") short_reader)) (λ n h. (refl, h)) from
  where
    from : (x : Head) → IsDown x → (n : ℕ) × (Short n) × (Down n ≡ x)
    from (Down promised) h = (promised, h, refl)
    from x h = absurd h

pub simulated_reader : IsReader simulated head_words SmallHead Any
unfolding simulated
simulated_reader = choice_reader (begins (codes "up")) SmallHead up_reader
    (choice_reader (begins (codes "down")) IsNotUp down_reader
    (reprinted head_words IsLost (behind_reader (codes "lost") (always_reader Lost Any)) (λ x is. (ap head_words is, is)) (λ x is. is))
    down_first (λ x rest is stop. ap (λ x. begins (codes "down") (head_words x ++ rest)) is) down_two (λ x is. subst IsNotUp (sym is) tt) down_either)
    up_first not_up_first one two either
  where
    down_first : (x : Head) (rest : Line) → IsDown x → Any rest → begins (codes "down") (head_words x ++ rest) ≡ true
    down_first (Down promised) rest h stop = refl
    down_first x rest h stop = absurd h

    down_two : (x : Head) → IsDown x → IsNotUp x
    down_two (Up promised role watermark at) h = h
    down_two (Down promised) h = h
    down_two Lost h = absurd h
    down_two Plain h = h

    down_either : (x : Head) → IsNotUp x → IsDown x ⊎ IsLost x
    down_either (Down promised) h = inl h
    down_either Lost h = inr refl
    down_either x h = absurd h

    up_first : (x : Head) (rest : Line) → IsUp x → Any rest → begins (codes "up") (head_words x ++ rest) ≡ true
    up_first (Up promised role watermark at) rest h stop = refl
    up_first x rest h stop = absurd h

    not_up_first : (x : Head) (rest : Line) → IsNotUp x → Any rest → begins (codes "up") (head_words x ++ rest) ≡ false
    not_up_first (Down promised) rest h stop = refl
    not_up_first Lost rest h stop = refl
    not_up_first x rest h stop = absurd h

    one : (x : Head) → IsUp x → SmallHead x
    one (Up promised role watermark at) h = h
    one Plain h = h
    one x h = absurd h

    two : (x : Head) → IsNotUp x → SmallHead x
    two (Up promised role watermark at) h = absurd h
    two (Down promised) h = h
    two Lost h = h
    two Plain h = h

    either : (x : Head) → SmallHead x → IsUp x ⊎ IsNotUp x
    either (Up promised role watermark at) h = inl h
    either (Down promised) h = inr h
    either Lost h = inr h
    either Plain h = absurd h

abbrev pub IsPlainHead : Head → Type 0
IsPlainHead h = h ≡ Plain

pub plain_reader : IsReader {E = ReportFault} (always Plain) head_words IsPlainHead Any
plain_reader = reprinted head_words IsPlainHead (always_reader {E = ReportFault} Plain Any) (λ x is. (ap head_words is, is)) (λ x is. is)

-- the line of a node
abbrev pub node_words : ℕ × Head → Line
node_words x = codes "node" ∷ decimal x.0 ∷ head_words x.1

pub node_reader : {number : OfWords ℕ} {head : OfWords Head} {F : ℕ → Type 0} {G : Head → Type 0} → IsReader number one_word F Any → IsReader head head_words G Any
    → IsReader (node number head) node_words (λ x. F x.0 × G x.1) Any
node_reader n h = behind_reader (codes "node") (chain n h)

-- ---- what became of events ----

-- the one line of what became of an event, but for a shown node
abbrev pub effect_words : Middle → Line
effect_words (Locked e w i t k word) =
    codes "refused" ∷ decimal e ∷ decimal w ∷ decimal i ∷ codes "locked" ∷ t ∷ decimal k ∷ decimal word ∷ []
effect_words (Changed e w i t k seen found) =
    codes "refused" ∷ decimal e ∷ decimal w ∷ decimal i ∷ codes "changed" ∷ t ∷ decimal k ∷ decimal seen ∷ decimal found ∷ []
effect_words (DeniedPromised m n promised) = codes "denied" ∷ decimal m ∷ decimal n ∷ codes "promised" ∷ decimal promised ∷ []
effect_words (DeniedBallot m n ballot) = codes "denied" ∷ decimal m ∷ decimal n ∷ codes "ballot" ∷ decimal ballot ∷ []
effect_words (DeniedOrder m n len) = codes "denied" ∷ decimal m ∷ decimal n ∷ codes "order" ∷ decimal len ∷ []
effect_words (NoMessage m) = codes "nomessage" ∷ decimal m ∷ []
effect_words (Opened e n count) = codes "opened" ∷ decimal e ∷ decimal n ∷ decimal count ∷ []
effect_words (Shown block) = []

abbrev pub Denial : Type 0
Denial = ℕ × (ℕ × ℕ)

abbrev SmallDenial : Denial → Type 0
SmallDenial x = Long x.0 × (Short x.1.0 × Short x.1.1)

denied_words_reader : (why : List ℕ) → IsReader (denied_words why) (λ x. codes "denied" ∷ decimal x.0 ∷ decimal x.1.0 ∷ why ∷ decimal x.1.1 ∷ []) SmallDenial Any
unfolding denied_words
denied_words_reader why = behind_reader (codes "denied") (chain long_reader (chain short_reader (behind_reader why short_reader)))

-- the numbers are those of their fields, and the tables have names
abbrev pub SmallEffect : Middle → Type 0
SmallEffect (Locked e w i t k word) = Short e × (Short w × (Short i × (IsName t × (Short k × Long word))))
SmallEffect (Changed e w i t k seen found) = Short e × (Short w × (Short i × (IsName t × (Short k × (Long seen × Long found)))))
SmallEffect (DeniedPromised m n promised) = Long m × (Short n × Short promised)
SmallEffect (DeniedBallot m n ballot) = Long m × (Short n × Short ballot)
SmallEffect (DeniedOrder m n len) = Long m × (Short n × Short len)
SmallEffect (NoMessage m) = Long m
SmallEffect (Opened e n count) = Short e × (Short n × Short count)
SmallEffect (Shown block) = ⊥

abbrev IsLocked : Middle → Type 0
IsLocked (Locked e w i t k word) = Short e × (Short w × (Short i × (IsName t × (Short k × Long word))))
IsLocked x = ⊥

abbrev IsChanged : Middle → Type 0
IsChanged (Changed e w i t k seen found) = Short e × (Short w × (Short i × (IsName t × (Short k × (Long seen × Long found)))))
IsChanged x = ⊥

abbrev IsPromised : Middle → Type 0
IsPromised (DeniedPromised m n promised) = Long m × (Short n × Short promised)
IsPromised x = ⊥

abbrev IsBallot : Middle → Type 0
IsBallot (DeniedBallot m n ballot) = Long m × (Short n × Short ballot)
IsBallot x = ⊥

abbrev IsOrder : Middle → Type 0
IsOrder (DeniedOrder m n len) = Long m × (Short n × Short len)
IsOrder x = ⊥

abbrev IsNotSent : Middle → Type 0
IsNotSent (NoMessage m) = Long m
IsNotSent x = ⊥

abbrev IsOpened : Middle → Type 0
IsOpened (Opened e n count) = Short e × (Short n × Short count)
IsOpened x = ⊥

abbrev pub IsRefusal : Middle → Type 0
IsRefusal (Locked e w i t k word) = Short e × (Short w × (Short i × (IsName t × (Short k × Long word))))
IsRefusal (Changed e w i t k seen found) = Short e × (Short w × (Short i × (IsName t × (Short k × (Long seen × Long found)))))
IsRefusal x = ⊥

abbrev IsOtherDenial : Middle → Type 0
IsOtherDenial (DeniedBallot m n ballot) = Long m × (Short n × Short ballot)
IsOtherDenial (DeniedOrder m n len) = Long m × (Short n × Short len)
IsOtherDenial x = ⊥

abbrev IsDenial : Middle → Type 0
IsDenial (DeniedPromised m n promised) = Long m × (Short n × Short promised)
IsDenial (DeniedBallot m n ballot) = Long m × (Short n × Short ballot)
IsDenial (DeniedOrder m n len) = Long m × (Short n × Short len)
IsDenial x = ⊥

abbrev IsLastKind : Middle → Type 0
IsLastKind (NoMessage m) = Long m
IsLastKind (Opened e n count) = Short e × (Short n × Short count)
IsLastKind x = ⊥

abbrev IsNoRefusal : Middle → Type 0
IsNoRefusal (DeniedPromised m n promised) = Long m × (Short n × Short promised)
IsNoRefusal (DeniedBallot m n ballot) = Long m × (Short n × Short ballot)
IsNoRefusal (DeniedOrder m n len) = Long m × (Short n × Short len)
IsNoRefusal (NoMessage m) = Long m
IsNoRefusal (Opened e n count) = Short e × (Short n × Short count)
IsNoRefusal x = ⊥

from_locked : (m : Middle) → IsLocked m → (a : ℕ × (ℕ × (ℕ × (List ℕ × (ℕ × ℕ))))) × (Short a.0 × (Short a.1.0 × (Short a.1.1.0 × (IsName a.1.1.1.0 × (Short a.1.1.1.1.0 × Long a.1.1.1.1.1))))) × (Locked a.0 a.1.0 a.1.1.0 a.1.1.1.0 a.1.1.1.1.0 a.1.1.1.1.1 ≡ m)
from_locked (Locked e w i t k word) h = ((e, (w, (i, (t, (k, word))))), h, refl)
from_locked x h = absurd h

from_changed : (m : Middle) → IsChanged m → (a : ℕ × (ℕ × (ℕ × (List ℕ × (ℕ × (ℕ × ℕ)))))) × (Short a.0 × (Short a.1.0 × (Short a.1.1.0 × (IsName a.1.1.1.0 × (Short a.1.1.1.1.0 × (Long a.1.1.1.1.1.0 × Long a.1.1.1.1.1.1)))))) × (Changed a.0 a.1.0 a.1.1.0 a.1.1.1.0 a.1.1.1.1.0 a.1.1.1.1.1.0 a.1.1.1.1.1.1 ≡ m)
from_changed (Changed e w i t k seen found) h = ((e, (w, (i, (t, (k, (seen, found)))))), h, refl)
from_changed x h = absurd h

from_promised : (m : Middle) → IsPromised m → (a : Denial) × (SmallDenial a) × (DeniedPromised a.0 a.1.0 a.1.1 ≡ m)
from_promised (DeniedPromised m n promised) h = ((m, (n, promised)), h, refl)
from_promised x h = absurd h

from_ballot : (m : Middle) → IsBallot m → (a : Denial) × (SmallDenial a) × (DeniedBallot a.0 a.1.0 a.1.1 ≡ m)
from_ballot (DeniedBallot m n ballot) h = ((m, (n, ballot)), h, refl)
from_ballot x h = absurd h

from_order : (m : Middle) → IsOrder m → (a : Denial) × (SmallDenial a) × (DeniedOrder a.0 a.1.0 a.1.1 ≡ m)
from_order (DeniedOrder m n len) h = ((m, (n, len)), h, refl)
from_order x h = absurd h

from_notsent : (m : Middle) → IsNotSent m → (a : ℕ) × (Long a) × (NoMessage a ≡ m)
from_notsent (NoMessage m) h = (m, h, refl)
from_notsent x h = absurd h

from_opened : (m : Middle) → IsOpened m → (a : ℕ × (ℕ × ℕ)) × (Short a.0 × (Short a.1.0 × Short a.1.1)) × (Opened a.0 a.1.0 a.1.1 ≡ m)
from_opened (Opened e n count) h = ((e, (n, count)), h, refl)
from_opened x h = absurd h

locked_reader : IsReader locked effect_words IsLocked Any
unfolding locked
locked_reader = made_reader _ effect_words IsLocked
    (behind_reader (codes "refused") (chain short_reader (chain short_reader (chain short_reader (behind_reader (codes "locked") (chain name_reader (chain short_reader long_reader)))))))
    (λ a h. (refl, h)) from_locked

changed_reader : IsReader changed effect_words IsChanged Any
unfolding changed
changed_reader = made_reader _ effect_words IsChanged
    (behind_reader (codes "refused") (chain short_reader (chain short_reader (chain short_reader (behind_reader (codes "changed") (chain name_reader (chain short_reader (chain long_reader long_reader))))))))
    (λ a h. (refl, h)) from_changed

promised_reader : IsReader (denied_for (codes "promised") DeniedPromised) effect_words IsPromised Any
promised_reader = made_reader _ effect_words IsPromised (denied_words_reader (codes "promised")) (λ a h. (refl, h)) from_promised

ballot_reader : IsReader (denied_for (codes "ballot") DeniedBallot) effect_words IsBallot Any
ballot_reader = made_reader _ effect_words IsBallot (denied_words_reader (codes "ballot")) (λ a h. (refl, h)) from_ballot

order_reader : IsReader (denied_for (codes "order") DeniedOrder) effect_words IsOrder Any
order_reader = made_reader _ effect_words IsOrder (denied_words_reader (codes "order")) (λ a h. (refl, h)) from_order

not_sent_reader : IsReader not_sent effect_words IsNotSent Any
unfolding not_sent
not_sent_reader = made_reader NoMessage effect_words IsNotSent (behind_reader (codes "nomessage") long_reader) (λ a h. (refl, h)) from_notsent

opened_reader : IsReader opened effect_words IsOpened Any
unfolding opened
opened_reader = made_reader _ effect_words IsOpened (behind_reader (codes "opened") (chain short_reader (chain short_reader short_reader))) (λ a h. (refl, h)) from_opened

pub refused_reader : IsReader refused effect_words IsRefusal Any
refused_reader = choice_reader (λ words. begins (codes "locked") (drop 4 words)) IsRefusal locked_reader changed_reader chooses passes one two either
  where
    chooses : (m : Middle) (rest : Line) → IsLocked m → Any rest → begins (codes "locked") (drop 4 (effect_words m ++ rest)) ≡ true
    chooses (Locked e w i t k word) rest h stop = refl
    chooses x rest h stop = absurd h

    passes : (m : Middle) (rest : Line) → IsChanged m → Any rest → begins (codes "locked") (drop 4 (effect_words m ++ rest)) ≡ false
    passes (Changed e w i t k seen found) rest h stop = refl
    passes x rest h stop = absurd h

    one : (m : Middle) → IsLocked m → IsRefusal m
    one (Locked e w i t k word) h = h
    one x h = absurd h

    two : (m : Middle) → IsChanged m → IsRefusal m
    two (Changed e w i t k seen found) h = h
    two x h = absurd h

    either : (m : Middle) → IsRefusal m → IsLocked m ⊎ IsChanged m
    either (Locked e w i t k word) h = inl h
    either (Changed e w i t k seen found) h = inr h
    either x h = absurd h

other_denial_reader : IsReader (choice (λ words. begins (codes "ballot") (drop 3 words)) (denied_for (codes "ballot") DeniedBallot) (denied_for (codes "order") DeniedOrder)) effect_words IsOtherDenial Any
other_denial_reader = choice_reader (λ words. begins (codes "ballot") (drop 3 words)) IsOtherDenial ballot_reader order_reader chooses passes one two either
  where
    chooses : (m : Middle) (rest : Line) → IsBallot m → Any rest → begins (codes "ballot") (drop 3 (effect_words m ++ rest)) ≡ true
    chooses (DeniedBallot m n ballot) rest h stop = refl
    chooses x rest h stop = absurd h

    passes : (m : Middle) (rest : Line) → IsOrder m → Any rest → begins (codes "ballot") (drop 3 (effect_words m ++ rest)) ≡ false
    passes (DeniedOrder m n len) rest h stop = refl
    passes x rest h stop = absurd h

    one : (m : Middle) → IsBallot m → IsOtherDenial m
    one (DeniedBallot m n ballot) h = h
    one x h = absurd h

    two : (m : Middle) → IsOrder m → IsOtherDenial m
    two (DeniedOrder m n len) h = h
    two x h = absurd h

    either : (m : Middle) → IsOtherDenial m → IsBallot m ⊎ IsOrder m
    either (DeniedBallot m n ballot) h = inl h
    either (DeniedOrder m n len) h = inr h
    either x h = absurd h

denied_reader : IsReader denied effect_words IsDenial Any
denied_reader = choice_reader (λ words. begins (codes "promised") (drop 3 words)) IsDenial promised_reader other_denial_reader chooses passes one two either
  where
    chooses : (m : Middle) (rest : Line) → IsPromised m → Any rest → begins (codes "promised") (drop 3 (effect_words m ++ rest)) ≡ true
    chooses (DeniedPromised m n promised) rest h stop = refl
    chooses x rest h stop = absurd h

    passes : (m : Middle) (rest : Line) → IsOtherDenial m → Any rest → begins (codes "promised") (drop 3 (effect_words m ++ rest)) ≡ false
    passes (DeniedBallot m n ballot) rest h stop = refl
    passes (DeniedOrder m n len) rest h stop = refl
    passes x rest h stop = absurd h

    one : (m : Middle) → IsPromised m → IsDenial m
    one (DeniedPromised m n promised) h = h
    one x h = absurd h

    two : (m : Middle) → IsOtherDenial m → IsDenial m
    two (DeniedBallot m n ballot) h = h
    two (DeniedOrder m n len) h = h
    two x h = absurd h

    either : (m : Middle) → IsDenial m → IsPromised m ⊎ IsOtherDenial m
    either (DeniedPromised m n promised) h = inl h
    either (DeniedBallot m n ballot) h = inr h
    either (DeniedOrder m n len) h = inr h
    either x h = absurd h

last_two_reader : IsReader (choice (begins (codes "nomessage")) not_sent opened) effect_words IsLastKind Any
last_two_reader = choice_reader (begins (codes "nomessage")) IsLastKind not_sent_reader opened_reader chooses passes one two either
  where
    chooses : (m : Middle) (rest : Line) → IsNotSent m → Any rest → begins (codes "nomessage") (effect_words m ++ rest) ≡ true
    chooses (NoMessage m) rest h stop = refl
    chooses x rest h stop = absurd h

    passes : (m : Middle) (rest : Line) → IsOpened m → Any rest → begins (codes "nomessage") (effect_words m ++ rest) ≡ false
    passes (Opened e n count) rest h stop = refl
    passes x rest h stop = absurd h

    one : (m : Middle) → IsNotSent m → IsLastKind m
    one (NoMessage m) h = h
    one x h = absurd h

    two : (m : Middle) → IsOpened m → IsLastKind m
    two (Opened e n count) h = h
    two x h = absurd h

    either : (m : Middle) → IsLastKind m → IsNotSent m ⊎ IsOpened m
    either (NoMessage m) h = inl h
    either (Opened e n count) h = inr h
    either x h = absurd h

last_three_reader : IsReader (choice (begins (codes "denied")) denied (choice (begins (codes "nomessage")) not_sent opened)) effect_words IsNoRefusal Any
last_three_reader = choice_reader (begins (codes "denied")) IsNoRefusal denied_reader last_two_reader chooses passes one two either
  where
    chooses : (m : Middle) (rest : Line) → IsDenial m → Any rest → begins (codes "denied") (effect_words m ++ rest) ≡ true
    chooses (DeniedPromised m n promised) rest h stop = refl
    chooses (DeniedBallot m n ballot) rest h stop = refl
    chooses (DeniedOrder m n len) rest h stop = refl
    chooses x rest h stop = absurd h

    passes : (m : Middle) (rest : Line) → IsLastKind m → Any rest → begins (codes "denied") (effect_words m ++ rest) ≡ false
    passes (NoMessage m) rest h stop = refl
    passes (Opened e n count) rest h stop = refl
    passes x rest h stop = absurd h

    one : (m : Middle) → IsDenial m → IsNoRefusal m
    one (DeniedPromised m n promised) h = h
    one (DeniedBallot m n ballot) h = h
    one (DeniedOrder m n len) h = h
    one x h = absurd h

    two : (m : Middle) → IsLastKind m → IsNoRefusal m
    two (NoMessage m) h = h
    two (Opened e n count) h = h
    two x h = absurd h

    either : (m : Middle) → IsNoRefusal m → IsDenial m ⊎ IsLastKind m
    either (DeniedPromised m n promised) h = inl h
    either (DeniedBallot m n ballot) h = inl h
    either (DeniedOrder m n len) h = inl h
    either (NoMessage m) h = inr h
    either (Opened e n count) h = inr h
    either x h = absurd h

pub effect_reader : IsReader effect effect_words SmallEffect Any
effect_reader = choice_reader (begins (codes "refused")) SmallEffect refused_reader last_three_reader chooses passes one two either
  where
    chooses : (m : Middle) (rest : Line) → IsRefusal m → Any rest → begins (codes "refused") (effect_words m ++ rest) ≡ true
    chooses (Locked e w i t k word) rest h stop = refl
    chooses (Changed e w i t k seen found) rest h stop = refl
    chooses x rest h stop = absurd h

    passes : (m : Middle) (rest : Line) → IsNoRefusal m → Any rest → begins (codes "refused") (effect_words m ++ rest) ≡ false
    passes (DeniedPromised m n promised) rest h stop = refl
    passes (DeniedBallot m n ballot) rest h stop = refl
    passes (DeniedOrder m n len) rest h stop = refl
    passes (NoMessage m) rest h stop = refl
    passes (Opened e n count) rest h stop = refl
    passes x rest h stop = absurd h

    one : (m : Middle) → IsRefusal m → SmallEffect m
    one (Locked e w i t k word) h = h
    one (Changed e w i t k seen found) h = h
    one x h = absurd h

    two : (m : Middle) → IsNoRefusal m → SmallEffect m
    two (DeniedPromised m n promised) h = h
    two (DeniedBallot m n ballot) h = h
    two (DeniedOrder m n len) h = h
    two (NoMessage m) h = h
    two (Opened e n count) h = h
    two x h = absurd h

    either : (m : Middle) → SmallEffect m → IsRefusal m ⊎ IsNoRefusal m
    either (Locked e w i t k word) h = inl h
    either (Changed e w i t k seen found) h = inl h
    either (DeniedPromised m n promised) h = inr h
    either (DeniedBallot m n ballot) h = inr h
    either (DeniedOrder m n len) h = inr h
    either (NoMessage m) h = inr h
    either (Opened e n count) h = inr h
    either (Shown block) h = absurd h
