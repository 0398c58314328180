use Rattle.std.proofs.Common.{ℕ, subst}
use Rattle.std.specs.Prelude.{Option, option_map}
use Rattle.block_pool.specs.declared.chain.Chain.{Chain}
use Rattle.link_end.specs.Ends.{Accounts}
use Rattle.link_end.proofs.AccountLemmas.{given_own}
use Rattle.worked_examples.proofs.nodes.fetch.Goals as goal

pub len-len-requires : goal.len-len-requires
len-len-requires c =
    let m = c.requires.stands.0 in
    let P : Option (ℕ × Chain) → Type 0 = λ o. Accounts c.next_message.new.self.link c.args.pool.now (option_map (λ x. x.1) o) in
    (subst P c.in-Some.is (c.next_message.ensures.accounts c.args.pool.now m c.requires.stands.1 c.requires.accounts)).fetched.live

pub copy_out-count-requires-clause-live : goal.copy_out-count-requires-clause-live
copy_out-count-requires-clause-live c =
    let m = c.requires.stands.0 in
    let P : Option (ℕ × Chain) → Type 0 = λ o. Accounts c.next_message.new.self.link c.args.pool.now (option_map (λ x. x.1) o) in
    (subst P c.in-Some.is (c.next_message.ensures.accounts c.args.pool.now m c.requires.stands.1 c.requires.accounts)).fetched.live

pub give-requires : goal.give-requires
give-requires c =
    let m = c.requires.stands.0 in
    let P : Option (ℕ × Chain) → Type 0 = λ o. Accounts c.next_message.new.self.link c.args.pool.now (option_map (λ x. x.1) o) in
    (subst P c.in-Some.is (c.next_message.ensures.accounts c.args.pool.now m c.requires.stands.1 c.requires.accounts)).fetched.live

pub returns-in-Some-clause-rests : goal.returns-in-Some-clause-rests
returns-in-Some-clause-rests c =
    let e = c.next_message.ensures in
    let m = c.requires.stands.0 in
    let P : Option (ℕ × Chain) → Type 0 = λ o. Accounts c.next_message.new.self.link c.args.pool.now (option_map (λ x. x.1) o) in
    let a = subst P c.in-Some.is (e.accounts c.args.pool.now m c.requires.stands.1 c.requires.accounts) in
    let g = c.give.ensures in
    let left = given_own c.args.pool.now c.give.new.self c.next_message.new.self.link _ _ (e.stands c.args.pool.now m c.requires.stands.1) a g.given g.others in
    record { state = _; stands = left.0; fetched = e.fetched; accounts = left.1 }

pub returns-in-None-clause-rests : goal.returns-in-None-clause-rests
returns-in-None-clause-rests c =
    let e = c.next_message.ensures in
    let m = c.requires.stands.0 in
    let P : Option (ℕ × Chain) → Type 0 = λ o. Accounts c.next_message.new.self.link c.args.pool.now (option_map (λ x. x.1) o) in
    record {
      state = _;
      stands = e.stands c.args.pool.now m c.requires.stands.1;
      fetched = e.fetched;
      accounts = subst P c.in-None.is (e.accounts c.args.pool.now m c.requires.stands.1 c.requires.accounts);
    }
