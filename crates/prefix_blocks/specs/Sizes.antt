-- How many cells the block of a list has.
--     order c      the block of c items has 2 ^ order c cells
--     size c       the number of its cells
--     cells_needed c      the cells that must be had for one more item in a list of c items
use Rattle.std.specs.Prelude.{ℕ, ◌==◌, leb, cond}

unfoldable pub order : ℕ → ℕ
order c = cond (leb c 1) 0 (cond (leb c 2) 1 (cond (leb c 4) 2 (cond (leb c 8) 3 (cond (leb c 16) 4 5))))

unfoldable pub size : ℕ → ℕ
size c = cond (leb c 1) 1 (cond (leb c 2) 2 (cond (leb c 4) 4 (cond (leb c 8) 8 (cond (leb c 16) 16 32))))

-- a block is full at 1, 2, 4, 8 and 16 items: then one of twice the size is needed
unfoldable pub cells_needed : ℕ → ℕ
cells_needed c = cond (c == 0) 1 (cond (c == 1) 2 (cond (c == 2) 4 (cond (c == 4) 8 (cond (c == 8) 16 (cond (c == 16) 32 0)))))
