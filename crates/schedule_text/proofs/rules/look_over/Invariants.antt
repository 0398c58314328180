use Rattle.schedule_text.proofs.Names.{first_digits_fault, first_host_fault, has_shape, length, list_all, option_or, slots, words, ◌&&◌, ◌+◌, ◌≡◌, ◌≤◌}
use Rattle.schedule_text.proofs.rules.look_over.Given as goal

abbrev pub invariant-words : goal.invariant-words
invariant-words l = record {
  count : length (words l.rest) ≡ l.seen.count + length (words l.left);
  counted : l.seen.count + length l.left ≤ length l.rest;
  shaped : list_all (λ s. has_shape l.hci s.kind s.word) (slots l.kinds (words l.rest))
      ≡ (l.seen.shaped && list_all (λ s. has_shape l.hci s.kind s.word) (slots l.coming (words l.left)));
  digits : first_digits_fault 2 0 (slots l.kinds (words l.rest)) ≡ option_or l.seen.digits (first_digits_fault l.at l.from (slots l.coming (words l.left)));
  host : first_host_fault l.hosts 0 (slots l.kinds (words l.rest)) ≡ option_or l.seen.host (first_host_fault l.hosts l.from (slots l.coming (words l.left)));
  bound : l.at + length l.left ≤ 2 + length l.rest;
}

abbrev pub decreases-words : goal.decreases-words
decreases-words l = length l.left
