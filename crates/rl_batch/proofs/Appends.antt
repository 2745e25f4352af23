-- The fields of an item, appended one after another.
use Rattle.std.proofs.Common.{◌≡◌, ℕ, List, ◌++◌, ap, ◌∙◌}
use Rattle.byteorder.specs.Endian.{big_bytes}
use Rattle.rl_txn.specs.declared.write.Write.{Write}
use Rattle.rl_txn.specs.declared.item.Item.{Item}
use Rattle.rl_fields.proofs.Appends.{appended}
use Rattle.rl_batch.specs.Encoding.{numbers_bytes, writes_bytes, end_number, item_bytes}

pub appended_item : (x : Item) (o0 o1 o2 o3 o4 o5 : List ℕ) (end : ℕ) (outs : List ℕ) (writes : List Write) → end ≡ end_number x.reply.end → outs ≡ x.reply.outs → writes ≡ x.writes
    → o1 ≡ o0 ++ big_bytes 8 x.stamp.seq → o2 ≡ o1 ++ big_bytes 4 x.index → o3 ≡ o2 ++ big_bytes 1 end → o4 ≡ o3 ++ numbers_bytes outs → o5 ≡ o4 ++ writes_bytes writes → o5 ≡ o0 ++ item_bytes x
appended_item x o0 o1 o2 o3 o4 o5 end outs writes end-is outs-is writes-is first second third fourth fifth =
    let seq = big_bytes 8 x.stamp.seq in
    let index = big_bytes 4 x.index in
    let ended = big_bytes 1 (end_number x.reply.end) in
    let numbers = numbers_bytes x.reply.outs in
    let e3 : o3 ≡ o2 ++ ended = third ∙ ap (λ (k : ℕ). o2 ++ big_bytes 1 k) end-is in
    let e4 : o4 ≡ o3 ++ numbers = fourth ∙ ap (λ (xs : List ℕ). o3 ++ numbers_bytes xs) outs-is in
    let e5 : o5 ≡ o4 ++ writes_bytes x.writes = fifth ∙ ap (λ (ws : List Write). o4 ++ writes_bytes ws) writes-is in
    let two = appended o0 o1 o2 seq index first second in
    let three = appended o0 o2 o3 (seq ++ index) ended two e3 in
    let four = appended o0 o3 o4 ((seq ++ index) ++ ended) numbers three e4 in
    appended o0 o4 o5 (((seq ++ index) ++ ended) ++ numbers) (writes_bytes x.writes) four e5
