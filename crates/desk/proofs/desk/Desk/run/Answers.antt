use Rattle.std.proofs.lemmas.List.{take_more}
use Rattle.desk.specs.declared.calls.Call.TheVariants.{Enter}
use Rattle.desk.proofs.RunLaws.{ran-more}
use Rattle.desk.proofs.desk.Desk.run.Goals as goal

pub loop-call-preserved : goal.loop-call-preserved
loop-call-preserved g c w h k =
    rw (c.in_ok-push.ensures.items, take_more c.args.calls.now c.loop-call.call-index (Enter (record { client = 0; participant = 0; member = 0 })) c.loop-call-test.true)
    (ran-more _ _ (λ w h b k. record { lawful = k.lawful; balanced = k.balanced; valued = k.valued }) w h _ _ _ c.loop-call.self _ _ _ (c.loop-call.invariant w h k)
    (λ x keeps. c.in_ok-reply.ensures.acted w x keeps))
